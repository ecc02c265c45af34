-- Sums over a list, one by one.
use Rattle.std.proofs.Common.{◌≡◌, ℕ, zero, suc, ◌+◌, List, [], ◌∷◌, take, drop, sum_by, refl, sym, ap, ◌∙◌, arith}
use Rattle.std.specs.Prelude.{IsPermutation}
use Rattle.std.proofs.lemmas.List.Sums.{sum_by-cons}
use Rattle.std.proofs.lemmas.List.Sorted.{sum_by-IsPermutation}

abbrev pub added : (ℕ → ℕ) → List ℕ → ℕ
added f [] = 0
added f (x ∷ xs) = f x + added f xs

sum_is : (f : ℕ → ℕ) (xs : List ℕ) → sum_by f xs ≡ added f xs
sum_is f [] = refl
sum_is f (x ∷ xs) = sum_by-cons f x xs ∙ ap (λ k. f x + k) (sum_is f xs)

pub added_parted : (f : ℕ → ℕ) (k : ℕ) (xs : List ℕ) → added f (take k xs) + added f (drop k xs) ≡ added f xs
added_parted f zero xs = omega arith
added_parted f (suc k) [] = refl
added_parted f (suc k) (x ∷ xs) = omega (arith, added_parted f k xs)

pub added_moved : (f : ℕ → ℕ) (xs ys : List ℕ) → IsPermutation xs ys → added f ys ≡ added f xs
added_moved f xs ys p = sym (sum_is f ys) ∙ sum_by-IsPermutation f xs ys p ∙ sum_is f xs
