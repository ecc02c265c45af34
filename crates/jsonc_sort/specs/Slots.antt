-- The places of a new row: children that stay, by their numbers, and leaves that come.
use Rattle.std.specs.Prelude.{ℕ, List, [], ◌∷◌, map}
use Rattle.jsonc_tree.specs.OrderedTree.{OrderedTree, Top, none, more}
pub use Rattle.jsonc_edit.specs.multiline.Slots.{Slot, stays, comes}

abbrev pub all_stay : List ℕ → List Slot
all_stay row = map stays row

-- what stands in a place, where each child is a node with the row below it
abbrev pub top_in : (ℕ → Top) → Slot → Top
top_in top (stays n) = top n
top_in top (comes content) = record { content = content; below = none }

-- the row of trees in these places, and then another
abbrev pub row_then : (ℕ → Top) → List Slot → OrderedTree → OrderedTree
row_then top [] rest = rest
row_then top (slot ∷ slots) rest = more (top_in top slot).content (top_in top slot).below (row_then top slots rest)

abbrev pub row_in : (ℕ → Top) → List Slot → OrderedTree
row_in top slots = row_then top slots none
