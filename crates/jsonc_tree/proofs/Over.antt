-- Which nodes stand above another.
use Rattle.std.proofs.Common.{◌≡◌, ◌≢◌, ◌⊎◌, inl, inr, ℕ, ◌<◌, List, length, get_or, Some, sym, ap, subst, ◌∙◌}
use Rattle.jsonc_tree.specs.Tree.{Node, IsTree, place_at, children_at, parent_at, IsOver, itself, above}
use Rattle.jsonc_tree.proofs.Order.{not_over_sibling}

-- of two nodes over a node, one is over the other
pub either_over : (ns : List Node) (s m n : ℕ) → IsOver ns s n → IsOver ns m n → (IsOver ns s m) ⊎ (IsOver ns m s)
either_over ns s _ n over itself = inl over
either_over ns _ m n itself over = inr over
either_over ns s m n (above {c = p} h r) (above {c = q} k t) =
    let both : Some p ≡ Some q = sym h ∙ k in
    let same : p ≡ q = cc in
    either_over ns s m q (subst (IsOver ns s) same r) t

-- what a node is over, its parent is over
pub over_up : (ns : List Node) (m p n : ℕ) → parent_at ns m ≡ Some p → IsOver ns m n → IsOver ns p n
over_up ns m p n said itself = above said itself
over_up ns m p n said (above h rest) = above h (over_up ns m p _ said rest)

-- a sibling of a node over another is not over that
pub sibling_not_over : (ns : List Node) → IsTree ns → (m p k c : ℕ) → parent_at ns m ≡ Some p → IsOver ns m c → k < length (children_at ns p) → k ≢ place_at ns m → IsOver ns (get_or (children_at ns p) k 0) c → ⊥
sibling_not_over ns tree m p k c said over h ne also =
    let s : ℕ = get_or (children_at ns p) k 0 in
    let s_said = tree.named p k h in
    let apart : s ≢ m = λ e. ne (sym (tree.placed p k h) ∙ ap (place_at ns) e) in
    elim (either_over ns s m c also over) [
      | inl a ↦ not_over_sibling ns tree s m p s_said said apart a
      | inr b ↦ not_over_sibling ns tree m s p said s_said (λ e. apart (sym e)) b
    ]
