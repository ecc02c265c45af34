-- Lists with each number as often are permutations of each other.
use Rattle.std.proofs.Common.{◌≡◌, ℕ, suc, ◌<◌, inl, inr, List, [], ◌∷◌, length, get_or, remove, slice_index, refl, sym, arith}
use Rattle.std.specs.Prelude.{IsPermutation}
use Rattle.std.proofs.lemmas.Bool.{cases_eq}
use Rattle.std.proofs.lemmas.List.Sorted.{IsPermutation-cons, IsPermutation-refl, IsPermutation-remove, IsPermutation-sym, IsPermutation-trans}
use Rattle.jsonc_sort.proofs.lemmas.groups.Added.{added, added_moved}
use Rattle.jsonc_sort.proofs.SortedRow.{it_here, it_other, is_it}

pub none_of : (n : ℕ) (xs : List ℕ) → ((i : ℕ) → i < length xs → slice_index xs i ≡ n → ⊥) → added (is_it n) xs ≡ 0
none_of n [] h = refl
none_of n (x ∷ xs) h = omega (arith, it_other n x (λ e. h 0 (omega arith) (sym e)), none_of n xs (λ i l. h (suc i) (omega arith)))

found : (n : ℕ) (xs : List ℕ) → 0 < added (is_it n) xs → (k : ℕ) × (k < length xs) × (n ≡ get_or xs k n)
found n [] h = absurd (omega arith)
found n (x ∷ xs) h =
    elim (cases_eq n x) [
      | inl e ↦ (0, omega arith, e)
      | inr e ↦ let rest = found n xs (omega (arith, h, it_other n x e)) in (suc rest.0, omega (arith, rest.1), rest.2)
    ]

pub by_counts : (xs ys : List ℕ) → ((n : ℕ) → added (is_it n) ys ≡ added (is_it n) xs) → IsPermutation xs ys
by_counts [] [] h = IsPermutation-refl []
by_counts [] (y ∷ ys) h = absurd (omega (arith, h y, it_here y y refl))
by_counts (x ∷ xs) ys h =
    let at = found x ys (omega (arith, h x, it_here x x refl)) in
    let rest : List ℕ = remove ys at.0 in
    let out : IsPermutation ys (x ∷ rest) = IsPermutation-remove ys at.0 x at.1 at.2 in
    let same : IsPermutation xs rest = by_counts xs rest (λ n. omega (arith, h n, added_moved (is_it n) ys (x ∷ rest) out)) in
    IsPermutation-trans (x ∷ xs) (x ∷ rest) ys (IsPermutation-cons x xs rest same) (IsPermutation-sym ys (x ∷ rest) out)
