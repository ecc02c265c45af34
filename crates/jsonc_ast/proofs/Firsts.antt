-- The first element of a list that passes a test, found by its place.
use Rattle.std.proofs.Common.{◌≡◌, ◌∙◌, ℕ, suc, ◌+◌, Bool, true, false, cond, not, nat_lt, List, [], ◌∷◌, length, get_or, Some, None, slice_get, refl, sym, ap, arith}
use Rattle.std.proofs.lemmas.Bool.{ltb-false}
use Rattle.std.proofs.lemmas.List.Folds.{find_at}
use Rattle.std.proofs.lemmas.List.Quantifiers.{position-Some}
use Rattle.std.proofs.lemmas.Option.{slice_get-get_or, slice_get_past}
use Rattle.std.specs.List.{find, position, position_or_len, remove}
use Rattle.std.specs.Set.{remove_key}

place_is : (b : Bool) (n i : ℕ) → cond b (Some n) None ≡ Some i → n ≡ i
place_is true n i e = cc
place_is false n i e = let never : ⊥ = cc in absurd never

no_place : (b : Bool) (n : ℕ) → cond b (Some n) None ≡ None → b ≡ false
no_place true n e = let never : ⊥ = cc in absurd never
no_place false n e = refl

module _ {X : Type 0} (p : X → Bool) where
  found_is : (xs : List X) (i : ℕ) → position p xs ≡ Some i → position_or_len p xs ≡ i
  found_is xs i e = place_is (nat_lt (position_or_len p xs) (length xs)) (position_or_len p xs) i e

  removed_first : (xs : List X) → remove xs (position_or_len p xs) ≡ remove_key p xs
  removed_first [] = refl
  removed_first (x ∷ xs) = by (p x) (removed_first xs)
    where
      by : (b : Bool) → remove xs (position_or_len p xs) ≡ remove_key p xs → remove (x ∷ xs) (cond (not b) (1 + position_or_len p xs) 0) ≡ cond b xs (x ∷ remove_key p xs)
      by true same = refl
      by false same = let next : 1 + position_or_len p xs ≡ suc (position_or_len p xs) = omega arith in ap (remove (x ∷ xs)) next ∙ ap (λ ys. x ∷ ys) same

  -- what stands at the place that was found is the first, and without it the list is without the first
  pub found_at : (xs : List X) (i : ℕ) (x : X) → position p xs ≡ Some i → x ≡ get_or xs i x → Some x ≡ find p xs
  found_at xs i x e at =
      ap Some at ∙ sym (slice_get-get_or xs i x (position-Some p xs i x e).0) ∙ sym (find_at p xs ∙ ap (slice_get xs) (found_is xs i e))

  pub removed_at : (xs ys : List X) (i : ℕ) → position p xs ≡ Some i → ys ≡ remove xs i → ys ≡ remove_key p xs
  removed_at xs ys i e left = left ∙ ap (remove xs) (sym (found_is xs i e)) ∙ removed_first xs

  -- where no place is found there is none, and nothing to leave out
  pub found_nowhere : (xs : List X) → position p xs ≡ None → None ≡ find p xs
  found_nowhere xs e =
      let past = ltb-false (position_or_len p xs) (length xs) (no_place (nat_lt (position_or_len p xs) (length xs)) (position_or_len p xs) e) in
      sym (find_at p xs ∙ slice_get_past xs (position_or_len p xs) past)

  none_left_out : (xs : List X) → find p xs ≡ None → xs ≡ remove_key p xs
  none_left_out [] e = refl
  none_left_out (x ∷ xs) e = by (p x) (none_left_out xs) e
    where
      by : (b : Bool) → (find p xs ≡ None → xs ≡ remove_key p xs) → cond b (Some x) (find p xs) ≡ None → x ∷ xs ≡ cond b xs (x ∷ remove_key p xs)
      by true later e = let never : ⊥ = cc in absurd never
      by false later e = ap (λ ys. x ∷ ys) (later e)

  pub unchanged : (xs : List X) → position p xs ≡ None → xs ≡ remove_key p xs
  unchanged xs e = none_left_out xs (sym (found_nowhere xs e))
