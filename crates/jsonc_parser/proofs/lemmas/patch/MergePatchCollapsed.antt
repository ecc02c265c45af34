-- Values that are the same but for arrays, with equal names collapsed.
use Rattle.std.proofs.Common.{ℕ, suc, ◌≡◌, ◌∙◌, ap, sym, subst, refl, inl, inr, List}
use Rattle.jsonc_text.specs.Plain.{Plain, null, boolean, number, string, array, object, collapse, collapse_items, collapse_members, last_of, without, Items, no_items, item, Members, no_members, member}
use Rattle.jsonc_insert.specs.elements.Members.{member_count}
use Rattle.jsonc_parser.specs.patch.Equality as equal
use Rattle.jsonc_parser.specs.patch.Equality.{AreEqual, AreItemsEqual, AreMembersIn, this_has, later_has, HasUniqueNames, ItemsHaveUniqueNames, MembersHaveUniqueNames}
use Rattle.jsonc_parser.specs.patch.MergePatch as up
use Rattle.jsonc_parser.specs.patch.MergePatch.{IsUpToArrays, AreUpToArrays}
use Rattle.jsonc_parser.proofs.lemmas.paths.Collapsed.{lacks_last, last_here, last_past, without_here, without_past}
use Rattle.jsonc_parser.proofs.lemmas.paths.Members.{same_or_not}
use Rattle.jsonc_parser.proofs.lemmas.patch.MergePatchMembers.{lacks_without}

-- texts of numbers are the same only where they are one
abbrev pub SameText : List ℕ → List ℕ → Type 0
SameText s t = s ≡ t

-- a value without repeated names is collapsed
mutual
  pub collapse_unique : {v : Plain} → HasUniqueNames v → collapse v ≡ v
  collapse_unique equal.unique_null = refl
  collapse_unique equal.unique_boolean = refl
  collapse_unique equal.unique_number = refl
  collapse_unique equal.unique_string = refl
  collapse_unique (equal.unique_array h) = ap array (items_unique h)
  collapse_unique (equal.unique_object h) = ap object (members_unique h)

  items_unique : {vs : Items} → ItemsHaveUniqueNames vs → collapse_items vs ≡ vs
  items_unique equal.unique_end = refl
  items_unique (equal.unique_item {v = v} {vs = vs} h k) = ap (λ x. item x (collapse_items vs)) (collapse_unique h) ∙ ap (item v) (items_unique k)

  members_unique : {ms : Members} → MembersHaveUniqueNames ms → collapse_members ms ≡ ms
  members_unique equal.unique_last = refl
  members_unique (equal.unique_member {name = name} {v = v} {ms = ms} lacks h k) =
      ap (λ rest. member name (last_of name (collapse v) rest) (without name rest)) (members_unique k)
      ∙ ap (λ x. member name x (without name ms)) (lacks_last lacks (collapse v) ∙ collapse_unique h) ∙ ap (member name v) (lacks_without lacks)

-- a value is equal to itself
in_more : {ms ns : Members} (name : List ℕ) (v : Plain) → AreMembersIn SameText ns ms → AreMembersIn SameText (member name v ns) ms
in_more name v equal.none = equal.none
in_more name v (equal.one h e k) = equal.one (later_has h) e (in_more name v k)

mutual
  itself_equal : (v : Plain) → AreEqual SameText v v
  itself_equal null = equal.nulls
  itself_equal (boolean b) = equal.booleans
  itself_equal (number s) = equal.numbers refl
  itself_equal (string s) = equal.strings
  itself_equal (array vs) = equal.arrays (items_equal vs)
  itself_equal (object ms) = equal.objects refl (members_in_itself ms)

  items_equal : (vs : Items) → AreItemsEqual SameText vs vs
  items_equal no_items = equal.no_more
  items_equal (item v vs) = equal.both (itself_equal v) (items_equal vs)

  members_in_itself : (ms : Members) → AreMembersIn SameText ms ms
  members_in_itself no_members = equal.none
  members_in_itself (member name v ms) = equal.one this_has (itself_equal v) (in_more name v (members_in_itself ms))

-- members of the same names, and equal values, one by one
data OneByOne : Members → Members → Type 0 where
  ends : OneByOne no_members no_members
  each : {name : List ℕ} {v w : Plain} {ms ns : Members} → AreEqual SameText v w → OneByOne ms ns → OneByOne (member name v ms) (member name w ns)

as_many : {ms ns : Members} → OneByOne ms ns → member_count ms ≡ member_count ns
as_many ends = refl
as_many (each h k) = ap suc (as_many k)

each_in : {ms ns : Members} → OneByOne ms ns → AreMembersIn SameText ns ms
each_in ends = equal.none
each_in (each {name = name} {w = w} h k) = equal.one this_has h (in_more name w (each_in k))

last_equal : {ms ns : Members} {x y : Plain} (name : List ℕ) → OneByOne ms ns → AreEqual SameText x y → AreEqual SameText (last_of name x ms) (last_of name y ns)
last_equal name ends e = e
last_equal {x = x} {y = y} name (each {name = n} {v = v} {w = w} {ms = ms} {ns = ns} h k) e =
    elim (same_or_not n name) [
      | inl is ↦
          subst (λ j. AreEqual SameText (last_of name x (member j v ms)) (last_of name y (member j w ns))) (sym is)
          (subst (λ t. AreEqual SameText t (last_of name y (member name w ns))) (sym (last_here name x v ms)) (subst (AreEqual SameText (last_of name v ms)) (sym (last_here name y w ns)) (last_equal name k h)))
      | inr ne ↦
          subst (λ t. AreEqual SameText t (last_of name y (member n w ns))) (sym (last_past name n x v ms ne))
          (subst (AreEqual SameText (last_of name x ms)) (sym (last_past name n y w ns ne)) (last_equal name k e))
    ]

without_equal : {ms ns : Members} (name : List ℕ) → OneByOne ms ns → OneByOne (without name ms) (without name ns)
without_equal name ends = ends
without_equal name (each {name = n} {v = v} {w = w} {ms = ms} {ns = ns} h k) =
    elim (same_or_not n name) [
      | inl is ↦
          subst (λ j. OneByOne (without name (member j v ms)) (without name (member j w ns))) (sym is)
          (subst (λ l. OneByOne l (without name (member name w ns))) (sym (without_here name v ms)) (subst (OneByOne (without name ms)) (sym (without_here name w ns)) (without_equal name k)))
      | inr ne ↦
          subst (λ l. OneByOne l (without name (member n w ns))) (sym (without_past name n v ms ne))
          (subst (OneByOne (member n v (without name ms))) (sym (without_past name n w ns ne)) (each h (without_equal name k)))
    ]

-- what is the same but for equal arrays is equal
mutual
  pub up_equal : {v w : Plain} → IsUpToArrays v w → AreEqual SameText (collapse v) (collapse w)
  up_equal (up.itself {v = v}) = itself_equal (collapse v)
  up_equal (up.equal_arrays h) = h
  up_equal (up.objects k) = let m = up_members k in equal.objects (as_many m) (each_in m)

  up_members : {ms ns : Members} → AreUpToArrays ms ns → OneByOne (collapse_members ms) (collapse_members ns)
  up_members up.no_more = ends
  up_members (up.one {name = name} h k) = let rest = up_members k in each (last_equal name rest (up_equal h)) (without_equal name rest)
