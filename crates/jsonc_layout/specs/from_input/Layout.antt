-- How what is written is to be laid out.
use Rattle.std.specs.Prelude.{ℕ, Bool, List, ◌++◌, string_bytes}
use Rattle.jsonc_tree.specs.declared.node.CstNewlineKind.{CstNewlineKind}
use Rattle.jsonc_layout.specs.declared.from_input.layout.Layout as given

-- the indent of the line that a value begins on, what one level more adds, whether the last of several lines has a comma, and how lines end
pub record Layout : Type 0 where
  pub current : List ℕ
  pub single : List ℕ
  pub trailing_commas : Bool
  pub newline : CstNewlineKind

-- one level deeper
abbrev pub deeper : Layout → Layout
deeper layout = record layout { current = layout.current ++ layout.single }

-- the layout that a call is given
abbrev pub layout_of : {A : Type 0} → given.Layout A → Layout
layout_of l = record { current = string_bytes l.current; single = string_bytes l.single; trailing_commas = l.trailing_commas; newline = l.newline }
