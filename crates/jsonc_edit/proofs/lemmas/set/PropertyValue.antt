-- The value of a property is its child.
use Rattle.std.proofs.Common.{◌≡◌, ℕ, All, List, Some, sym, subst, ◌∙◌}
use Rattle.std.proofs.lemmas.List.{get_or_default}
use Rattle.jsonc_tree.specs.Content.{property}
use Rattle.jsonc_tree.specs.Tree.{Node, content_at, parent_at, children_at, IsTree}
use Rattle.jsonc_layout.specs.nodes.Properties.{value_at}
use Rattle.jsonc_layout.proofs.lemmas.nodes.PropertyValues.{held_among, value_is_held}

-- the value of a property is its child
pub held_child : (ns : List Node) → IsTree ns → (p n : ℕ) → content_at ns p ≡ property → value_at ns p ≡ Some n → parent_at ns n ≡ Some p
held_child ns tree p n is e = held_among (λ k. parent_at ns k ≡ Some p) ns (children_at ns p) n all (sym (value_is_held ns p is) ∙ e)
  where
    all : All (λ k. parent_at ns k ≡ Some p) (children_at ns p)
    all k d l = subst (λ j. parent_at ns j ≡ Some p) (get_or_default (children_at ns p) k 0 d l) (tree.named p k l)
