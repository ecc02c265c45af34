-- Two values are equal, or not; and what is in a list of members under a name.
use Rattle.std.proofs.Common.{ℕ, zero, suc, ◌≡◌, ◌⊎◌, ap, sym, subst, refl, inl, inr, List, true, false}
use Rattle.jsonc_text.specs.Plain.{Plain, null, boolean, number, string, array, object, Items, no_items, item, Members, no_members, member}
use Rattle.jsonc_insert.specs.elements.Members.{member_count}
use Rattle.jsonc_parser.specs.patch.Equality as equal
use Rattle.jsonc_parser.specs.patch.Equality.{AreEqual, AreItemsEqual, AreMembersIn, HasMember, this_has, later_has}
use Rattle.jsonc_parser.proofs.lemmas.paths.Members.{same_or_not}
use Rattle.jsonc_parser.proofs.lemmas.patch.MergePatchCollapsed.{SameText}

-- it is so, or not
abbrev pub Told : Type 0 → Type 0
Told A = A ⊎ (A → ⊥)

same_count : (n m : ℕ) → Told (n ≡ m)
same_count zero zero = inl refl
same_count zero (suc m) = inr (λ e. cc)
same_count (suc n) zero = inr (λ e. cc)
same_count (suc n) (suc m) =
    elim (same_count n m) [
      | inl e ↦ inl (ap suc e)
      | inr ne ↦ inr (λ e. ne (lower n m e))
    ]
  where
    lower : (n m : ℕ) → suc n ≡ suc m → n ≡ m
    lower n m e = cc

abbrev Has : Plain → List ℕ → Members → Type 0
Has v name ns = (w : Plain) × HasMember name w ns × AreEqual SameText v w

has_more : {v : Plain} {name n : List ℕ} {w : Plain} {ns : Members} → Has v name (member n w ns) → ((n ≡ name) × AreEqual SameText v w) ⊎ Has v name ns
has_more (x, this_has, h) = inl (refl, h)
has_more (x, later_has m, h) = inr (x, m, h)

has_told : (v : Plain) → ((w : Plain) → Told (AreEqual SameText v w)) → (name : List ℕ) (ns : Members) → Told (Has v name ns)
has_told v tell name no_members = inr (λ h. elim (h.1) [ ])
has_told v tell name (member n w ns) =
    elim (has_told v tell name ns) [
      | inl h ↦ inl (h.0, later_has h.1, h.2)
      | inr none ↦
          elim (same_or_not n name) [
            | inr ne ↦ inr (λ h. elim (has_more h) [ inl here ↦ ne here.0 | inr later ↦ none later ])
            | inl is ↦
                elim (tell w) [
                  | inl e ↦ inl (w, subst (λ k. HasMember name w (member k w ns)) (sym is) this_has, e)
                  | inr differ ↦ inr (λ h. elim (has_more h) [ inl here ↦ differ here.1 | inr later ↦ none later ])
                ]
          ]
    ]

first_in : {name : List ℕ} {v : Plain} {ms ns : Members} → AreMembersIn SameText ns (member name v ms) → Has v name ns × AreMembersIn SameText ns ms
first_in (equal.one {w = w} h e k) = ((w, h, e), k)

both_items : {v w : Plain} {vs ws : Items} → AreItemsEqual SameText (item v vs) (item w ws) → AreEqual SameText v w × AreItemsEqual SameText vs ws
both_items (equal.both h k) = (h, k)

numbers_in : {s t : List ℕ} → AreEqual SameText (number s) (number t) → s ≡ t
numbers_in (equal.numbers e) = e

strings_in : {s t : List ℕ} → AreEqual SameText (string s) (string t) → s ≡ t
strings_in equal.strings = refl

arrays_in : {vs ws : Items} → AreEqual SameText (array vs) (array ws) → AreItemsEqual SameText vs ws
arrays_in (equal.arrays h) = h

objects_in : {ms ns : Members} → AreEqual SameText (object ms) (object ns) → (member_count ms ≡ member_count ns) × AreMembersIn SameText ns ms
objects_in (equal.objects n h) = (n, h)

mutual
  pub equal_told : (v w : Plain) → Told (AreEqual SameText v w)
  equal_told null null = inl equal.nulls
  equal_told (boolean true) (boolean true) = inl equal.booleans
  equal_told (boolean false) (boolean false) = inl equal.booleans
  equal_told (number s) (number t) =
      elim (same_or_not s t) [
        | inl e ↦ inl (equal.numbers e)
        | inr ne ↦ inr (λ h. ne (numbers_in h))
      ]
  equal_told (string s) (string t) =
      elim (same_or_not s t) [
        | inl e ↦ inl (subst (λ k. AreEqual SameText (string s) (string k)) e equal.strings)
        | inr ne ↦ inr (λ h. ne (strings_in h))
      ]
  equal_told (array vs) (array ws) =
      elim (items_told vs ws) [
        | inl h ↦ inl (equal.arrays h)
        | inr differ ↦ inr (λ h. differ (arrays_in h))
      ]
  equal_told (object ms) (object ns) =
      elim (same_count (member_count ms) (member_count ns)) [
        | inr ne ↦ inr (λ h. ne (objects_in h).0)
        | inl n ↦
            elim (members_told ms ns) [
              | inl h ↦ inl (equal.objects n h)
              | inr differ ↦ inr (λ h. differ (objects_in h).1)
            ]
      ]
  equal_told v w = inr (λ h. elim h [ ])

  items_told : (vs ws : Items) → Told (AreItemsEqual SameText vs ws)
  items_told no_items no_items = inl equal.no_more
  items_told no_items (item w ws) = inr (λ h. elim h [ ])
  items_told (item v vs) no_items = inr (λ h. elim h [ ])
  items_told (item v vs) (item w ws) =
      elim (equal_told v w) [
        | inr differ ↦ inr (λ h. differ (both_items h).0)
        | inl e ↦
            elim (items_told vs ws) [
              | inl h ↦ inl (equal.both e h)
              | inr differ ↦ inr (λ h. differ (both_items h).1)
            ]
      ]

  members_told : (ms ns : Members) → Told (AreMembersIn SameText ns ms)
  members_told no_members ns = inl equal.none
  members_told (member name v ms) ns =
      elim (has_told v (λ w. equal_told v w) name ns) [
        | inr none ↦ inr (λ h. none (first_in h).0)
        | inl found ↦
            elim (members_told ms ns) [
              | inl h ↦ inl (equal.one found.1 found.2 h)
              | inr differ ↦ inr (λ h. differ (first_in h).1)
            ]
      ]
