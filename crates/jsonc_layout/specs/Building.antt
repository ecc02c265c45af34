-- Nodes that are made for a row before they are inserted: detached yet.
use Rattle.std.specs.Prelude.{◌≡◌, ◌≤◌, ◌<◌, ℕ, List, ◌++◌, length, map, slice_index, None}
use Rattle.jsonc_tree.specs.Building.{Keeps}
use Rattle.jsonc_tree.specs.Changes.{EachOnce}
use Rattle.jsonc_tree.specs.Content.{Content}
use Rattle.jsonc_tree.specs.Tree.{Node, content_at, parent_at}

-- the node was made since, and is detached
pub record IsFresh (old now : List Node) (n : ℕ) : Type 0 where
  pub later : length old ≤ n
  pub in_tree : n < length now
  pub alone : parent_at now n ≡ None

-- so are these, and none stands there twice
pub record AreFresh (old now : List Node) (xs : List ℕ) : Type 0 where
  pub each : (k : ℕ) → k < length xs → IsFresh old now (slice_index xs k)
  pub once : EachOnce xs

-- they are these leaves, and nothing that was there has changed
pub record LeavesMade (old now : List Node) (contents : List Content) (leaves : List ℕ) : Type 0 where
  pub keeps : Keeps (length old) old now
  pub fresh : AreFresh old now leaves
  pub are : map (content_at now) leaves ≡ contents

-- a row of nodes has these leaves more
pub record Gains (old : List Node) (was : List ℕ) (now : List Node) (row : List ℕ) (contents : List Content) : Type 0 where
  pub leaves : List ℕ
  pub is : row ≡ was ++ leaves
  pub made : LeavesMade old now contents leaves
