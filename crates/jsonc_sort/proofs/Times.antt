-- How often numbers stand in lists, and lists in which each stands once.
use Rattle.std.proofs.Common.{◌≡◌, ◌≢◌, inl, inr, ℕ, zero, suc, ◌<◌, ◌≤◌, List, [], ◌∷◌, length, slice_index, refl, sym, ap, ◌∙◌, arith}
use Rattle.std.proofs.lemmas.Bool.{cases_eq, eq-eqb, ne_eqb}
use Rattle.jsonc_tree.specs.Changes.{EachOnce}
use Rattle.jsonc_sort.specs.Plans.{times}

pub times_here : (n m : ℕ) (row : List ℕ) → n ≡ m → times n (m ∷ row) ≡ suc (times n row)
times_here n m row e = rw (eq-eqb n m e) refl

pub times_other : (n m : ℕ) (row : List ℕ) → n ≢ m → times n (m ∷ row) ≡ times n row
times_other n m row e = rw (ne_eqb n m e) refl

times_more : (n m : ℕ) (row : List ℕ) → times n row ≤ times n (m ∷ row)
times_more n m row =
    elim (cases_eq n m) [
      | inl e ↦ omega (arith, times_here n m row e)
      | inr e ↦ omega (arith, times_other n m row e)
    ]

pub found : (row : List ℕ) (k : ℕ) → k < length row → 1 ≤ times (slice_index row k) row
found [] k h = absurd (omega arith)
found (x ∷ row) zero h = omega (arith, times_here x x row refl)
found (x ∷ row) (suc k) h = omega (arith, found row k (omega arith), times_more (slice_index row k) x row)

pub once_each : (row : List ℕ) → ((n : ℕ) → times n row ≤ 1) → EachOnce row
once_each [] h a b la lb e = absurd (omega arith)
once_each (x ∷ row) h zero zero la lb e = refl
once_each (x ∷ row) h zero (suc b) la lb e =
    absurd (let some : 1 ≤ times (slice_index row b) row = found row b (omega arith) in omega (arith, some, h (slice_index row b), times_here (slice_index row b) x row (sym e)))
once_each (x ∷ row) h (suc a) zero la lb e =
    absurd (let some : 1 ≤ times (slice_index row a) row = found row a (omega arith) in omega (arith, some, h (slice_index row a), times_here (slice_index row a) x row e))
once_each (x ∷ row) h (suc a) (suc b) la lb e =
    ap suc (once_each row (λ n. omega (arith, h n, times_more n x row)) a b (omega arith) (omega arith) e)

absent : (n : ℕ) (row : List ℕ) → ((k : ℕ) → k < length row → slice_index row k ≡ n → ⊥) → times n row ≡ 0
absent n [] h = refl
absent n (x ∷ row) h =
    elim (cases_eq n x) [
      | inl e ↦ absurd (h 0 (omega arith) (sym e))
      | inr e ↦ times_other n x row e ∙ absent n row (λ k l f. h (suc k) (omega (arith, l)) f)
    ]

pub each_once : (row : List ℕ) → EachOnce row → (n : ℕ) → times n row ≤ 1
each_once [] h n = omega arith
each_once (x ∷ row) h n =
    elim (cases_eq n x) [
      | inl e ↦ omega (arith, times_here n x row e, absent n row (λ k l f. let same : 0 ≡ suc k = h 0 (suc k) (omega arith) (omega (arith, l)) (sym e ∙ sym f) in omega (arith, same)))
      | inr e ↦ omega (arith, times_other n x row e, each_once row (λ a b la lb f. let same : suc a ≡ suc b = h (suc a) (suc b) (omega (arith, la)) (omega (arith, lb)) f in omega (arith, same)) n)
    ]
