-- Names that are seen one after another, by their bytes.
use Rattle.std.proofs.Common.{◌≡◌, ◌∙◌, inl, inr, ℕ, ◌+◌, ◌<◌, ◌≤◌, Bool, true, false, not, List, [], ◌∷◌, ◌++◌, length, get_or, take, map, Contains, IsUtf8, Option, Some, None, slice_get, position, IfNone, IfSome, is_some, refl, sym, ap, subst, arith, if◌then◌else◌}
use Rattle.std.proofs.lemmas.Bool.{cases_lt, false≢true}
use Rattle.std.proofs.lemmas.List.{get_or-map, get_or-take, length-map, length-take-le, map_push, take_more}
use Rattle.std.proofs.lemmas.List.Folds.{Any-from_list_any, list_any_at}
use Rattle.std.proofs.lemmas.List.Quantifiers.{position-Some}
use Rattle.std.proofs.lemmas.Option.{get_or_from_slice_get, slice_get-get_or}
use Rattle.std.proofs.lemmas.Slice.Eq.{bytes_eq-Decides}
use Rattle.std.specs.Borrow.{Bor}
use Rattle.std.specs.List.{list_any}
use Rattle.std.specs.Str.{bytes_eq}
use Rattle.indexmap.specs.IndexSet.{insert_key}

-- two names have the same bytes
abbrev pub name_eq : Bor (List ℕ) → Bor (List ℕ) → Bool
name_eq a b = bytes_eq a.now b.now

abbrev pub bytes_of : List (Bor (List ℕ)) → List (List ℕ)
bytes_of names = map (λ n. n.now) names

-- what is added was absent, and what is not was there
pub absent : (added there : Bool) → added ≡ not there → added ≡ true → there ≡ false
absent added true e f = absurd (false≢true (sym e ∙ f))
absent added false e f = refl

pub present : (added there : Bool) → added ≡ not there → added ≡ false → there ≡ true
present added true e f = refl
present added false e f = absurd (false≢true (sym f ∙ e))

-- the name of an element
pub name_at : {P : Type 0} (f : P → List ℕ) (ps : List P) (i : ℕ) (p : P) → i < length ps → p ≡ get_or ps i p → get_or (map f ps) i [] ≡ f p
name_at f ps i p l e = get_or-map f ps i p [] l ∙ ap f (sym e)

module _ (xs : List (List ℕ)) (i : ℕ) (old : List (Bor (List ℕ))) (v : Bor (List ℕ)) (so_far : bytes_of old ≡ take i xs) where
  -- one more, which is new
  pub one_seen : (new : List (Bor (List ℕ))) → i < length xs → get_or xs i [] ≡ v.now → list_any (name_eq v) old ≡ false → new ≡ insert_key name_eq old v → bytes_of new ≡ take (i + 1) xs
  one_seen new l at absent pushed =
      ap bytes_of (pushed ∙ ap (λ c. if c then old else old ++ v ∷ []) absent) ∙ map_push (λ n. n.now) old v ∙ (λ k. so_far k ++ sym at k ∷ []) ∙ sym (take_more xs i [] l)

  as_many : i ≤ length xs → length old ≡ i
  as_many l = sym (length-map old (λ n. n.now)) ∙ ap length so_far ∙ length-take-le i xs l

  there : (j : ℕ) (d : Bor (List ℕ)) → i ≤ length xs → j < i → (get_or old j d).now ≡ get_or xs j []
  there j d l below =
      let inside : j < length old = omega (arith, as_many l, below) in
      sym (get_or-map (λ n. n.now) old j d [] inside) ∙ ap (λ s. get_or s j []) so_far ∙ get_or-take i xs j [] below

  -- it was seen before
  pub seen_earlier : i ≤ length xs → list_any (name_eq v) old ≡ true → (j : ℕ) × (j < i) × (get_or xs j [] ≡ v.now)
  seen_earlier l e =
      let any = Any-from_list_any (name_eq v) old e in
      let below : any.0 < i = omega (arith, any.2, as_many l) in
      (any.0, below, sym (there any.0 any.1 l below) ∙ ap (λ n. n.now) any.3 ∙ sym ((bytes_eq-Decides v.now any.1.now).0 any.4))

  -- it was not
  pub unseen : i ≤ length xs → list_any (name_eq v) old ≡ false → (j : ℕ) → j < i → get_or xs j [] ≡ v.now → ⊥
  unseen l e j below same =
      let inside : j < length old = omega (arith, as_many l, below) in
      let equal = (bytes_eq-Decides v.now (get_or old j v).now).1 (sym (there j v l below ∙ same)) in
      false≢true (sym e ∙ list_any_at (name_eq v) old j v inside equal)

-- where a name is among others
module _ (q : Bor (List ℕ)) (names : List (Bor (List ℕ))) where
  pub placed : (r : Option ℕ) → r ≡ position (name_eq q) names → IfSome r (λ i. slice_get (bytes_of names) i ≡ Some q.now)
  placed None e = tt
  placed (Some i) e =
      let at = position-Some (name_eq q) names i q (sym e) in
      let inside : i < length (bytes_of names) = omega (arith, at.0, length-map names (λ n. n.now)) in
      slice_get-get_or (bytes_of names) i [] inside ∙ ap Some (get_or-map (λ n. n.now) names i q [] at.0 ∙ sym ((bytes_eq-Decides q.now (get_or names i q).now).0 at.1))

  pub unplaced : (r : Option ℕ) → is_some r ≡ list_any (name_eq q) names → IfNone r (Contains (bytes_of names) q.now → ⊥)
  unplaced (Some i) e = tt
  unplaced None e = none
    where
      none : Contains (bytes_of names) q.now → ⊥
      none (k, l, at) =
          let inside : k < length names = omega (arith, l, length-map names (λ n. n.now)) in
          let equal = (bytes_eq-Decides q.now (get_or names k q).now).1 (sym (sym (get_or-map (λ n. n.now) names k q [] inside) ∙ read at)) in
          false≢true (e ∙ list_any_at (name_eq q) names k q inside equal)
        where
          read : get_or (bytes_of names) k q.now ≡ q.now → get_or (bytes_of names) k [] ≡ q.now
          read f = get_or_from_slice_get (bytes_of names) k q.now [] (slice_get-get_or (bytes_of names) k q.now l ∙ ap Some f)

-- no two of the first names are the same, and each is of characters
abbrev pub Distinct : List (List ℕ) → ℕ → Type 0
Distinct xs i = (j k : ℕ) → j < k → k < i → get_or xs j [] ≡ get_or xs k [] → ⊥

abbrev pub AreTexts : List (List ℕ) → ℕ → Type 0
AreTexts xs i = (j : ℕ) → j < i → IsUtf8 (get_or xs j [])

module _ (xs : List (List ℕ)) (i : ℕ) (name : List ℕ) (at : get_or xs i [] ≡ name) where
  pub one_distinct : Distinct xs i → ((j : ℕ) → j < i → get_or xs j [] ≡ name → ⊥) → Distinct xs (i + 1)
  one_distinct h other j k below l e =
      elim (cases_lt k i) [
        | inl m ↦ h j k below m e
        | inr m ↦ let same : k ≡ i = omega (arith, l, m) in other j (omega (arith, below, same)) (e ∙ ap (λ n. get_or xs n []) same ∙ at)
      ]

  pub one_text : AreTexts xs i → IsUtf8 name → AreTexts xs (i + 1)
  one_text h text j l =
      elim (cases_lt j i) [
        | inl m ↦ h j m
        | inr m ↦ let same : j ≡ i = omega (arith, l, m) in subst IsUtf8 (sym (ap (λ n. get_or xs n []) same ∙ at)) text
      ]

-- one more is another
pub other_there : (xs : List (List ℕ)) (i : ℕ) (name : List ℕ) → ((j : ℕ) → j < i → get_or xs j [] ≡ name → ⊥) → (get_or xs i [] ≡ name → ⊥) → (j : ℕ) → j < i + 1 → get_or xs j [] ≡ name → ⊥
other_there xs i name h other j l e =
    elim (cases_lt j i) [
      | inl m ↦ h j m e
      | inr m ↦ let same : j ≡ i = omega (arith, l, m) in other (sym (ap (λ n. get_or xs n []) same) ∙ e)
    ]
