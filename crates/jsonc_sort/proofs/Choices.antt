-- Choices, and lists in parts.
use Rattle.std.proofs.Common.{◌≡◌, ℕ, zero, suc, Bool, true, false, List, [], ◌∷◌, ◌++◌, length, take, drop, map, refl, ap, subst, arith}
use Rattle.std.specs.Prelude.{if◌then◌else◌, slice_index_or, zip, All, IsPermutation}
use Rattle.std.specs.List.{range_with_len}
use Rattle.std.proofs.lemmas.List.{ext_get_or}
use Rattle.std.proofs.lemmas.List.Sorted.{All-permutation, IsPermutation-map}
use Rattle.std.proofs.lemmas.List.FromFn.{get_or-map-range_with_len, length-map-range_with_len}

pub choose : {A : Type 0} (P : A → Type 0) (b : Bool) (x y : A) → P x → P y → P (if b then x else y)
choose P true x y h k = h
choose P false x y h k = k

-- with what is known then
pub choose_by : {A : Type 0} (P : A → Type 0) (b : Bool) (x y : A) → (b ≡ true → P x) → (b ≡ false → P y) → P (if b then x else y)
choose_by P true x y h k = h refl
choose_by P false x y h k = k refl

-- a list by the numbers of its members
pub all_members : {A : Type 0} (d : A) (xs : List A) → map (λ i. slice_index_or xs i d) (range_with_len 0 (length xs)) ≡ xs
all_members d xs =
    let long : length (map (λ i. slice_index_or xs i d) (range_with_len 0 (length xs))) ≡ length xs = length-map-range_with_len (λ i. slice_index_or xs i d) 0 (length xs) in
    ext_get_or d (map (λ i. slice_index_or xs i d) (range_with_len 0 (length xs))) xs long
    (λ i h. get_or-map-range_with_len (λ i. slice_index_or xs i d) 0 (length xs) i i d (omega (arith, h, long)) (omega arith))

-- P holds of each member, one by one
abbrev pub Each : {A : Type 0} → (A → Type 0) → List A → Type 0
Each P [] = Unit {0}
Each P (x ∷ xs) = P x × Each P xs

-- pairs of two lists: each of a pair has what its list has, and the second of each are the second list
pub each_zipped : {A : Type 0} (P : A → Type 0) (xs ys : List A) → Each P xs → Each P ys → Each (λ p. P p.0 × P p.1) (zip xs ys)
each_zipped P [] ys h k = tt
each_zipped P (x ∷ xs) [] h k = tt
each_zipped P (x ∷ xs) (y ∷ ys) h k = ((h.0, k.0), each_zipped P xs ys h.1 k.1)

pub zipped_seconds : {A B : Type 0} (f : A → B) (xs ys : List A) → length ys ≡ length xs → map (λ p. f p.1) (zip xs ys) ≡ map f ys
zipped_seconds f [] [] e = refl
zipped_seconds f [] (y ∷ ys) e = absurd (omega arith)
zipped_seconds f (x ∷ xs) [] e = absurd (omega arith)
zipped_seconds f (x ∷ xs) (y ∷ ys) e = ap (λ l. f y ∷ l) (zipped_seconds f xs ys (omega arith))

module _ {A : Type 0} (P : A → Type 0) where
  pub each_take : (k : ℕ) (xs : List A) → Each P xs → Each P (take k xs)
  each_take zero xs h = tt
  each_take (suc k) [] h = tt
  each_take (suc k) (x ∷ xs) h = (h.0, each_take k xs h.1)

  pub each_drop : (k : ℕ) (xs : List A) → Each P xs → Each P (drop k xs)
  each_drop zero xs h = h
  each_drop (suc k) [] h = tt
  each_drop (suc k) (x ∷ xs) h = each_drop k xs h.1

  pub each_joined : (xs ys : List A) → Each P xs → Each P ys → Each P (xs ++ ys)
  each_joined [] ys h k = k
  each_joined (x ∷ xs) ys h k = (h.0, each_joined xs ys h.1 k)

  pub each_all : (xs : List A) → Each P xs → All P xs
  each_all [] h k d lt = absurd (omega arith)
  each_all (x ∷ xs) h zero d lt = h.0
  each_all (x ∷ xs) h (suc k) d lt = each_all xs h.1 k d (omega arith)

  pub all_each : (xs : List A) → All P xs → Each P xs
  all_each [] h = tt
  all_each (x ∷ xs) h = (h 0 x (omega arith), all_each xs (λ k d lt. h (suc k) d (omega arith)))

  pub each_moved : (xs ys : List A) → IsPermutation xs ys → Each P xs → Each P ys
  each_moved xs ys p h = all_each ys (All-permutation P xs ys p (each_all xs h))

-- the members of a list in an order
pub all_moved : {A : Type 0} (d : A) (xs : List A) (order : List ℕ) → IsPermutation (range_with_len 0 (length xs)) order → IsPermutation xs (map (λ i. slice_index_or xs i d) order)
all_moved d xs order p =
    subst (λ l. IsPermutation l (map (λ i. slice_index_or xs i d) order)) (all_members d xs) (IsPermutation-map (λ i. slice_index_or xs i d) (range_with_len 0 (length xs)) order p)
