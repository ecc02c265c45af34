-- What the nodes are where an array or object has been put on several lines.
use Rattle.std.specs.Prelude.{◌≡◌, ◌-◌, ℕ, Bool, not, IsTrue, List, length}
use Rattle.std.specs.List.{list_any}
use Rattle.jsonc_tree.specs.Changes.{CanJoin, Splices}
use Rattle.jsonc_tree.specs.Tree.{Node, children_at, IsTree}
use Rattle.jsonc_layout.specs.nodes.Kinds.{is_newline_at}
use Rattle.jsonc_edit.specs.Put.{Extends}
use Rattle.jsonc_text.specs.declared.edit.EditError.{EditError}
use Rattle.jsonc_text.specs.declared.edit.EditError.TheVariants.{OutOfMemory, MissingBrackets}
use Rattle.jsonc_edit.specs.remove.Removed.{has_brackets}
use Rattle.jsonc_edit.specs.multiline.Slots.{Slot, AreFilled}
use Rattle.jsonc_edit.specs.multiline.Lines.{lines_for, spread_row}

-- a line ends among the children of a container
abbrev pub has_line_end : List Node → ℕ → Bool
has_line_end ns c = list_any (is_newline_at ns) (children_at ns c)

-- What stood between the brackets of c has been replaced by a row with these places: the leaves that come were made, and then all took their places at once.
pub record TakesRow (old new : List Node) (c : ℕ) (slots : List Slot) : Type 0 where
  pub ready : List Node
  pub row : List ℕ
  pub prepared : Extends old ready
  pub filled : AreFilled old ready slots row
  pub join : CanJoin ready c 1 (length (children_at old c) - 1) row
  pub put : Splices ready new c 1 (length (children_at old c) - 1) row
  pub tree : IsTree new

-- c, which has its brackets, has been put on several lines, or was on several
pub record MadeMultiline (old new : List Node) (c : ℕ) : Type 0 where
  pub brackets : IsTrue (has_brackets old c)
  pub was : IsTrue (has_line_end old c) → new ≡ old
  pub is : IsTrue (not (has_line_end old c)) → TakesRow old new c (spread_row (lines_for old c) old c)

-- why it has not been: it lacks brackets; or it has them, its lines were still to be made, and allocation failed
abbrev pub IsUnspread : List Node → ℕ → EditError → Type 0
IsUnspread ns c OutOfMemory = IsTrue (has_brackets ns c) × IsTrue (not (has_line_end ns c))
IsUnspread ns c MissingBrackets = IsTrue (not (has_brackets ns c))
IsUnspread ns c why = ⊥
