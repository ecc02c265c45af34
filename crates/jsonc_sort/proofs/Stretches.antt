-- Stretches of a stretch of a row.
use Rattle.std.proofs.Common.{◌≡◌, ℕ, zero, suc, ◌+◌, ◌-◌, ◌≤◌, List, [], ◌∷◌, ◌++◌, take, drop, refl, ap, ◌∙◌, sym, arith}
use Rattle.std.specs.Prelude.{slice_range}
use Rattle.std.proofs.lemmas.List.{drop-drop, drop-take, take-take}

module _ {X : Type 0} (row : List X) where
  -- the stretch of n nodes from a on
  abbrev pub stretch : ℕ → ℕ → List X
  stretch a n = take n (drop a row)

  pub range_is : (a b n : ℕ) → b ≡ a + n → slice_range row a b ≡ stretch a n
  range_is a b n e = ap (λ k. take k (drop a row)) (omega (arith, e))

  pub front_of : (a t n : ℕ) → t ≤ n → take t (stretch a n) ≡ slice_range row a (a + t)
  front_of a t n h = take-take t n (drop a row) h ∙ sym (range_is a (a + t) t refl)

  pub rest_of : (a i n b : ℕ) → i ≤ n → b ≡ a + n → drop i (stretch a n) ≡ slice_range row (a + i) b
  rest_of a i n b h e =
      let more : i + (n - i) ≡ n = omega (arith, h) in
      ap (λ k. drop i (take k (drop a row))) (sym more) ∙ drop-take i (n - i) (drop a row) ∙ ap (take (n - i)) (drop-drop i a row) ∙ sym (range_is (a + i) b (n - i) (omega (arith, e, h)))

  pub middle_of : (a t i n : ℕ) → t ≤ i → i ≤ n → slice_range (stretch a n) t i ≡ slice_range row (a + t) (a + i)
  middle_of a t i n h k =
      ap (take (i - t)) (rest_of a t n (a + n) (omega (arith, h, k)) refl)
      ∙ take-take (i - t) (a + n - (a + t)) (drop (a + t) row) (omega (arith, h, k))
      ∙ sym (range_is (a + t) (a + i) (i - t) (omega (arith, h)))

take_nil : {X : Type 0} (k : ℕ) → take {A = X} k [] ≡ []
take_nil zero = refl
take_nil (suc k) = refl

-- a stretch in two
pub take_both : {X : Type 0} (a b : ℕ) (xs : List X) → take (a + b) xs ≡ take a xs ++ take b (drop a xs)
take_both zero b xs = ap (λ k. take k xs) (omega arith)
take_both (suc a) b [] = ap (λ k. take k []) one ∙ sym (take_nil b)
  where
    one : suc a + b ≡ suc (a + b)
    one = omega arith
take_both (suc a) b (x ∷ xs) = ap (λ k. take k (x ∷ xs)) one ∙ ap (λ l. x ∷ l) (take_both a b xs)
  where
    one : suc a + b ≡ suc (a + b)
    one = omega arith
