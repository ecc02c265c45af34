-- Two lists of the same numbers that ascend by something are alike in it, place by place.
use Rattle.std.proofs.Common.{◌≡◌, ℕ, zero, suc, ◌+◌, ◌<◌, ◌≤◌, cond, ltb, List, [], ◌∷◌, length, get_or, inl, inr, refl, sym, arith, lt-ltb, le-ltb}
use Rattle.std.specs.Prelude.{IsPermutation}
use Rattle.std.specs.List.Sorted.{IsNonDecreasingBy}
use Rattle.std.proofs.lemmas.Bool.{cases_lt}
use Rattle.std.proofs.lemmas.List.Sorted.{length_permutation}
use Rattle.jsonc_sort.proofs.lemmas.groups.Added.{added, added_moved}

module _ (g : ℕ → ℕ) where
  tail_rises : (x : ℕ) (xs : List ℕ) → IsNonDecreasingBy g (x ∷ xs) → IsNonDecreasingBy g xs
  tail_rises x xs up = λ i j d le lt. up (suc i) (suc j) d (omega arith) (omega arith)

  module _ (t : ℕ) where
    -- 1 below the bound, else 0
    abbrev low : ℕ → ℕ
    low x = cond (ltb (g x) t) 1 0

    low_is : (x : ℕ) → g x < t → low x ≡ 1
    low_is x h = rw (lt-ltb (g x) t h) refl

    low_not : (x : ℕ) → t ≤ g x → low x ≡ 0
    low_not x h = rw (le-ltb (g x) t h) refl

    none_low : (xs : List ℕ) → ((i : ℕ) → i < length xs → t ≤ g (get_or xs i 0)) → added low xs ≡ 0
    none_low [] h = refl
    none_low (x ∷ xs) h = omega (arith, low_not x (h 0 (omega arith)), none_low xs (λ i l. h (suc i) (omega arith)))

    -- of a list that ascends the first numbers are those below the bound
    low_counted : (xs : List ℕ) → IsNonDecreasingBy g xs → (i d : ℕ) → i < length xs → g (get_or xs i d) < t → i < added low xs
    low_counted [] up i d lt h = absurd (omega arith)
    low_counted (x ∷ xs) up zero d lt h = omega (arith, low_is x h)
    low_counted (x ∷ xs) up (suc i) d lt h =
        let later : g x ≤ g (get_or xs i d) = up 0 (suc i) d (omega arith) lt in
        omega (arith, low_is x (omega (arith, later, h)), low_counted xs (tail_rises x xs up) i d (omega arith) h)

    none_there : (x : ℕ) (xs : List ℕ) → IsNonDecreasingBy g (x ∷ xs) → t ≤ g x → added low (x ∷ xs) ≡ 0
    none_there x xs up h = none_low (x ∷ xs) (λ i l. let later : g x ≤ g (get_or (x ∷ xs) i 0) = up 0 i 0 (omega arith) l in omega (arith, later, h))

    low_there : (xs : List ℕ) → IsNonDecreasingBy g xs → (i d : ℕ) → i < length xs → i < added low xs → g (get_or xs i d) < t
    low_there [] up i d lt h = absurd (omega arith)
    low_there (x ∷ xs) up zero d lt h =
        elim (cases_lt (g x) t) [
          | inl holds ↦ holds
          | inr fails ↦ absurd (omega (arith, h, none_there x xs up fails))
        ]
    low_there (x ∷ xs) up (suc i) d lt h =
        elim (cases_lt (g x) t) [
          | inl holds ↦ low_there xs (tail_rises x xs up) i d (omega arith) (omega (arith, h, low_is x holds))
          | inr fails ↦ absurd (omega (arith, h, none_there x xs up fails))
        ]

  no_more : (xs ys : List ℕ) → IsNonDecreasingBy g xs → IsNonDecreasingBy g ys → ((t : ℕ) → added (low t) ys ≡ added (low t) xs) → (i d a : ℕ) → i < length xs → i < length ys → g (get_or xs i d) ≡ a → g (get_or ys i d) ≤ a
  no_more xs ys up rise counts i d a lx ly e =
      let one : i < added (low (a + 1)) xs = low_counted (a + 1) xs up i d lx (omega (arith, e)) in
      let top : g (get_or ys i d) < a + 1 = low_there (a + 1) ys rise i d ly (omega (arith, one, counts (a + 1))) in
      omega (arith, top)

  pub alike : (xs ys : List ℕ) → IsPermutation xs ys → IsNonDecreasingBy g xs → IsNonDecreasingBy g ys → (i d : ℕ) → i < length xs → g (get_or ys i d) ≡ g (get_or xs i d)
  alike xs ys same up rise i d lt =
      let long : length ys ≡ length xs = length_permutation xs ys same in
      let counts : (t : ℕ) → added (low t) ys ≡ added (low t) xs = λ t. added_moved (low t) xs ys same in
      let first : g (get_or ys i d) ≤ g (get_or xs i d) = no_more xs ys up rise counts i d (g (get_or xs i d)) lt (omega (arith, lt, long)) refl in
      let second : g (get_or xs i d) ≤ g (get_or ys i d) = no_more ys xs rise up (λ t. sym (counts t)) i d (g (get_or ys i d)) (omega (arith, lt, long)) lt refl in
      omega (arith, first, second)
