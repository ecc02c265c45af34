-- Trailing commas that are set, or taken away.
use Rattle.std.specs.Prelude.{◌≡◌, ℕ, List}
use Rattle.std.specs.List.{All}
use Rattle.jsonc_text.specs.Options.{Options}
use Rattle.jsonc_tree.specs.OrderedTree.{ordered_tree}
use Rattle.jsonc_tree.specs.Tree.{Node, IsOver}
use Rattle.jsonc_sound.specs.SoundTrees.{SoundTree}
use Rattle.jsonc_text.specs.declared.edit.TrailingCommaMode.{TrailingCommaMode}
use Rattle.jsonc_edit.specs.commas.InTurn.{holders, AreSetInPart, AreSetInTurn}
use Rattle.jsonc_edit.specs.commas.Laws.{AreAsSaid, IsSet}

module _ (old new : List Node) where
  -- the trailing comma of n, and of each array and object below it, has been set, one after another
  abbrev pub CommasSet : TrailingCommaMode → ℕ → Type 0
  CommasSet mode n = AreSetInTurn mode old (holders old n) new

  -- those of the first of them have, and the next needs a comma
  abbrev pub CommasSetInPart : TrailingCommaMode → ℕ → Type 0
  CommasSetInPart mode n = AreSetInPart mode old (holders old n) new

  -- each of them is as the mode says now, save where more than one comma was after the last element; n may be a node of a damaged document, or of none
  abbrev pub CommasSaid : TrailingCommaMode → ℕ → Type 0
  CommasSaid mode n = AreAsSaid mode old new n

  -- and in a sound document each of them is as the mode says
  abbrev pub AllCommasSet : TrailingCommaMode → Options → ℕ → Type 0
  AllCommasSet mode o n = SoundTree o (ordered_tree old 0) → IsOver old 0 n → All (IsSet mode new) (holders new n)

  -- so a further call by the same mode changes nothing
  abbrev pub CommasStay : TrailingCommaMode → Options → ℕ → Type 0
  CommasStay mode o n = SoundTree o (ordered_tree old 0) → IsOver old 0 n → (later : List Node) → AreSetInTurn mode new (holders new n) later → later ≡ new
