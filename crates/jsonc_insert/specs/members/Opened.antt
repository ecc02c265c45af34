-- The row of an object on several lines, as it is to be before a property comes in. A row is a list of nodes by their numbers, the brackets among them.
use Rattle.std.specs.Prelude.{◌-◌, ◌≡◌, ◌<◌, ◌⊎◌, ℕ, true, List, [], ◌∷◌, ◌++◌, length, map, slice_index, Some, if◌then◌else◌}
use Rattle.std.specs.List.{All}
use Rattle.jsonc_tree.specs.Changes.{EachOnce}
use Rattle.jsonc_tree.specs.Building.{Keeps}
use Rattle.jsonc_tree.specs.Tree.{Node, children_at, is_container_at, parent_at, IsTree}
use Rattle.jsonc_edit.specs.Put.{Extends}
use Rattle.jsonc_insert.specs.Inserted.{BecomesRow}
use Rattle.jsonc_layout.specs.Building.{IsFresh}
use Rattle.jsonc_insert.specs.Planned.{has_brackets}
use Rattle.jsonc_insert.specs.Trimmed.{trimmed}
use Rattle.jsonc_edit.specs.multiline.Slots.{Slot, stays, AreFilled}
use Rattle.jsonc_edit.specs.multiline.Lines.{lines_for, spread_row}
use Rattle.jsonc_edit.specs.multiline.Multiline.{has_line_end}

-- the first and the last node of a row, and these places between them
abbrev pub enclosed : List ℕ → List Slot → List Slot
enclosed row inside = stays (slice_index row 0) ∷ (inside ++ stays (slice_index row (length row - 1)) ∷ [])

-- the row of c on several lines: as it is, where a line ends in it already
abbrev pub opened : List Node → ℕ → List Slot
opened ns c = if has_line_end ns c then map stays (children_at ns c) else enclosed (children_at ns c) (spread_row (lines_for ns c) ns c)

-- a child of c, or a node that was made since
abbrev pub IsOfRow : List Node → List Node → ℕ → ℕ → Type 0
IsOfRow old now c n = (parent_at old n ≡ Some c) ⊎ IsFresh old now n

-- These nodes are that row: children of c, and leaves that were made for it. Nothing that was there has changed.
pub record IsOpened (old now : List Node) (c : ℕ) (row : List ℕ) : Type 0 where
  pub prepared : Extends old now
  pub filled : AreFilled old now (opened old c) row
  pub from : All (IsOfRow old now c) row
  pub once : EachOnce row
  pub brackets : has_brackets now row ≡ true

-- These are that row without blank lines directly inside its brackets.
pub record IsBefore (old now : List Node) (c : ℕ) (row : List ℕ) : Type 0 where
  pub lines : List ℕ
  pub opens : IsOpened old now c lines
  pub is : row ≡ trimmed now lines

-- c has been put on several lines: the leaves that come were made, and then it got that row.
pub record IsSpread (old new : List Node) (c : ℕ) : Type 0 where
  pub lined : List Node
  pub opens : IsOpened old lined c (children_at new c)
  pub put : BecomesRow lined new c (children_at new c)

-- it had this row and was put on several lines, and since then nodes have been added alone
pub record WasSpread (old now : List Node) (c : ℕ) (row : List ℕ) : Type 0 where
  pub tree : IsTree old
  pub there : c < length old
  pub holds : is_container_at old c ≡ true
  pub had : row ≡ children_at old c
  pub spread : List Node
  pub is : IsSpread old spread c
  pub later : Keeps (length spread) spread now
