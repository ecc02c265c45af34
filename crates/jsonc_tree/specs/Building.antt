-- How a tree is built: a finished part stands alone until it is appended to its container, and nothing that was there before changes.
use Rattle.std.specs.Prelude.{◌≡◌, ℕ, ◌≤◌, ◌<◌, List, length, None}
use Rattle.jsonc_tree.specs.Content.{Content}
use Rattle.jsonc_tree.specs.Tree.{Node, content_at, parent_at, children_at, IsTree}
use Rattle.jsonc_tree.specs.OrderedTree.{OrderedTree, Shows}

-- the first `count` nodes are as they were; there may be new ones
pub record Keeps (count : ℕ) (old new : List Node) : Type 0 where
  pub len : length old ≤ length new
  pub content : (n : ℕ) → n < count → content_at new n ≡ content_at old n
  pub parent : (n : ℕ) → n < count → parent_at new n ≡ parent_at old n
  pub children : (n : ℕ) → n < count → children_at new n ≡ children_at old n

-- the new nodes are a tree, every old one is as it was, and among those added this one stands alone, with this content, over this row of trees
pub record Builds (old new : List Node) (n : ℕ) (content : Content) (below : OrderedTree) : Type 0 where
  pub tree : IsTree new
  pub keeps : Keeps (length old) old new
  pub later : length old ≤ n
  pub in_tree : n < length new
  pub alone : parent_at new n ≡ None
  pub is : content_at new n ≡ content
  pub shows : Shows new (children_at new n) below
