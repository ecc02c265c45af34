-- A walk below a node in the order of the document, and how deep the nodes are.
use Rattle.std.specs.Prelude.{◌≡◌, ℕ, ◌+◌, ◌<◌, ◌≤◌, List, ◌∷◌, ◌++◌, length, Option, Some, option_map}
use Rattle.std.specs.List.{All}
use Rattle.jsonc_tree.specs.Order.{rest_at, upward}
use Rattle.jsonc_tree.specs.Tree.{Node, parent_at, IsOver}
use Rattle.jsonc_layout.specs.declared.lines.walk.Reached.{Reached}

-- how many nodes stand above the node
abbrev pub depth_at : List Node → ℕ → ℕ
depth_at ns n = length (upward ns (parent_at ns n))

abbrev pub node_of : Option Reached → Option ℕ
node_of reached = option_map (λ r. r.node) reached

-- what a walk below the node `top` has come to is there, and so many levels below it
pub record HasCome (ns : List Node) (top : ℕ) (reached : Reached) : Type 0 where
  pub in_tree : reached.node < length ns
  pub over : IsOver ns top reached.node
  pub depth : depth_at ns reached.node ≡ depth_at ns top + reached.depth

-- behind a node the walk goes on at the next one: each node that it passes over is at least so deep
pub record Passes (ns : List Node) (top depth n : ℕ) (next : Option ℕ) : Type 0 where
  pub passed : List ℕ
  pub rest : rest_at ns top (Some n) ≡ n ∷ (passed ++ rest_at ns top next)
  pub deep : All (λ m. depth ≤ depth_at ns m) passed
