-- A node of a document is replaced by one that was not there before.
use Rattle.std.specs.Prelude.{◌≡◌, ℕ, ◌≤◌, List, length, None}
use Rattle.jsonc_tree.specs.Tree.{Node, parent_at}
use Rattle.jsonc_tree.specs.OrderedTree.{Top}
use Rattle.jsonc_edit.specs.Due.{spaces_needed_around}
use Rattle.jsonc_edit.specs.Put.{AreSpaced, Extends}
use Rattle.jsonc_edit.specs.Changes.{top_at, Replaces}

-- the element m, which was detached, has taken the place of the child n: what it is, with the row below it
pub record TakesPlace (old new : List Node) (n m : ℕ) (now : Top) : Type 0 where
  pub replaces : Replaces old new n m
  pub alone : parent_at old m ≡ None
  pub is : top_at old m ≡ now

-- The child n has been replaced by a new node, m: what is needed was made ready, the spaces have come that are due around n where such a node comes, and m has
-- taken its place.
pub record ReplacedBy (old new : List Node) (n m : ℕ) (now : Top) : Type 0 where
  pub ready : List Node
  pub spaced : List Node
  pub fresh : length old ≤ m
  pub prepared : Extends old ready
  pub spaces : AreSpaced ready (spaces_needed_around ready n now.content) spaced
  pub place : TakesPlace spaced new n m now

-- The child n has been replaced by a new node, m, and no space has come: what is needed was made ready, and m has taken its place.
pub record ReplacedByRaw (old new : List Node) (n m : ℕ) (now : Top) : Type 0 where
  pub ready : List Node
  pub fresh : length old ≤ m
  pub prepared : Extends old ready
  pub place : TakesPlace ready new n m now
