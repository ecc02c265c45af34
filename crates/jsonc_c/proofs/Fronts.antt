-- The front of a list, where something has been put over it.
use Rattle.std.proofs.Common.{◌≡◌, ◌≤◌, ◌++◌, ℕ, List, ap, length, min, subst, sym, take, ◌∙◌}
use Rattle.std.proofs.Math.Nat.{min-le_right}
use Rattle.std.proofs.lemmas.List.{length-take-le, take_at, take_min}

-- it is the front of a text, as much as there is room for
pub front_put : (text put rest : List ℕ) (most n : ℕ) → n ≡ min most (length text) → put ≡ take n text → take n (put ++ rest) ≡ take most text
front_put text put rest most n is same =
    let within : n ≤ length text = subst (λ k. k ≤ length text) (sym is) (min-le_right most (length text)) in
    take_at put rest n (ap length same ∙ length-take-le n text within) ∙ same ∙ ap (λ k. take k text) is ∙ take_min most text

-- it is all that was put
pub all_put : (text put rest : List ℕ) (n : ℕ) → n ≡ length text → put ≡ text → take n (put ++ rest) ≡ text
all_put text put rest n is same = take_at put rest n (ap length same ∙ sym is) ∙ same
