-- What adding to a container does to the nodes of a tree.
use Rattle.std.specs.Prelude.{ℕ, ◌≡◌, ◌≢◌, ◌<◌, ◌≤◌, List, [], ◌∷◌, ◌++◌, length}
use Rattle.jsonc_tree.specs.Changes.{Pushes}
use Rattle.jsonc_tree.specs.Content.{Content}
use Rattle.jsonc_sound.specs.Leaves.{LeafAt}
use Rattle.jsonc_tree.specs.Tree.{Node, children_at, content_at}
use Rattle.jsonc_tree.specs.OrderedTree.{OrderedTree, Shows}

-- each number is one of those from `first` up to `end`
pub data AreFrom (first end : ℕ) : List ℕ → Type 0 where
  none_from : AreFrom first end []
  one_from : {n : ℕ} {ns : List ℕ} → first ≤ n → n < end → AreFrom first end ns → AreFrom first end (n ∷ ns)

-- the nodes are the old ones and new ones, and new children of the container stand for the row, with new nodes alone below them
pub record Grows (old new : List Node) (c : ℕ) (row : OrderedTree) : Type 0 where
  pub len : length old ≤ length new
  pub kids : List ℕ
  pub children : children_at new c ≡ children_at old c ++ kids
  pub shows : Shows new kids row
  pub new_kids : AreFrom (length old) (length new) kids
  pub closed : (n : ℕ) → length old ≤ n → n < length new → AreFrom (length old) (length new) (children_at new n)
  pub others : (n : ℕ) → n < length old → n ≢ c → children_at new n ≡ children_at old n
  pub contents : (n : ℕ) → n < length old → content_at new n ≡ content_at old n

-- the container has one more child, which is the leaf of the text from the place i up to the place j
pub record AddsLeaf (old new : List Node) (c : ℕ) (text : List ℕ) (i j : ℕ) : Type 0 where
  pub content : Content
  pub leaf : LeafAt text content i j
  pub pushes : Pushes old new c content
