-- How a node that stands alone is built on.
use Rattle.std.specs.Prelude.{ℕ, ◌≡◌, ◌<◌, List, None, length, IsTrue}
use Rattle.jsonc_tree.specs.Content.{Content}
use Rattle.jsonc_tree.specs.Tree.{Node, Tree, parent_at, is_container_at, IsTree}
use Rattle.jsonc_tree.specs.OrderedTree.{OrderedTree, none, followed_by, Top}
use Rattle.jsonc_tree.specs.Building.{Keeps, Builds}

-- the nodes are a tree, and this one is a container that is detached
pub record IsUnfinished (ns : List Node) (container : ℕ) : Type 0 where
  pub tree : IsTree ns
  pub in_tree : container < length ns
  pub holds : IsTrue (is_container_at ns container)
  pub alone : parent_at ns container ≡ None

-- the container still is one, and what was built of it is so with this row after it
pub record Extends (old new : List Node) (container : ℕ) (row : OrderedTree) : Type 0 where
  pub unfinished : IsUnfinished new container
  pub builds : (first : List Node) (content : Content) (below : OrderedTree) → Builds first old container content below
      → Builds first new container content (followed_by below row)

-- this node is built
abbrev pub BuildsNode : List Node → List Node → ℕ → Top → Type 0
BuildsNode old new n node = Builds old new n node.content node.below

-- the same of the nodes of two trees: the answer is the number of this node, or the container has this row more
abbrev pub Makes : Tree → Tree → Top → ℕ → Type 0
Makes old new node n = BuildsNode old.nodes new.nodes n node

abbrev pub Gains : Tree → Tree → ℕ → (OrderedTree → OrderedTree) → Type 0
Gains old new container row = Extends old.nodes new.nodes container (row none)

-- the nodes that were there, or those numbered before a container, are as they were
abbrev pub KeepsAll : Tree → Tree → Type 0
KeepsAll old new = Keeps (length old.nodes) old.nodes new.nodes

abbrev pub KeepsBefore : ℕ → Tree → Tree → Type 0
KeepsBefore container old new = Keeps container old.nodes new.nodes
