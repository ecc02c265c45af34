-- Changes of one node of a document, and what they make of its ordered tree.
use Rattle.std.specs.Prelude.{◌≡◌, ℕ, ◌+◌, ◌<◌, List, [], ◌∷◌, length, Some}
use Rattle.jsonc_tree.specs.Content.{Content}
use Rattle.jsonc_tree.specs.Tree.{Node, content_at, parent_at, place_at, IsTree}
use Rattle.jsonc_tree.specs.Changes.{Splices, CanJoin, LeafBecomes}
use Rattle.jsonc_tree.specs.OrderedTree.{OrderedTree, grown, ordered_tree, Top}
use Rattle.jsonc_sound.specs.TreeChanges.{IsElement, DocumentChanged}
use Rattle.jsonc_edit.specs.Paths.{IsAt}

-- the row of trees below a node
abbrev pub row_below : List Node → ℕ → OrderedTree
row_below ns n = grown (length ns) ns n

-- a node with the row below it
abbrev pub top_at : List Node → ℕ → Top
top_at ns n = record { content = content_at ns n; below = row_below ns n }

-- where the node stands in the document, it and the row below it have been replaced by another
abbrev pub ChangesAt : List Node → List Node → ℕ → Top → Type 0
ChangesAt old new n now = (path : List ℕ) → IsAt old path n → DocumentChanged (top_at old n) now path (ordered_tree old 0) (ordered_tree new 0)

-- a child, n, is replaced by an element, m
pub record Replaces (old new : List Node) (n m : ℕ) : Type 0 where
  pub container : ℕ
  pub tree : IsTree old
  pub after : IsTree new
  pub parent : parent_at old n ≡ Some container
  pub element : IsElement (content_at old m)
  pub join : CanJoin old container (place_at old n) (place_at old n + 1) (m ∷ [])
  pub spliced : Splices old new container (place_at old n) (place_at old n + 1) (m ∷ [])

-- of the children of c, which is there, those between two places are replaced by others
pub record Respliced (old new : List Node) (c : ℕ) : Type 0 where
  pub from : ℕ
  pub to : ℕ
  pub put : List ℕ
  pub tree : IsTree old
  pub in_tree : c < length old
  pub after : IsTree new
  pub join : CanJoin old c from to put
  pub spliced : Splices old new c from to put

-- a leaf that is there becomes another
pub record LeafChanged (old new : List Node) (leaf : ℕ) : Type 0 where
  pub content : Content
  pub tree : IsTree old
  pub in_tree : leaf < length old
  pub after : IsTree new
  pub becomes : LeafBecomes old new leaf content
