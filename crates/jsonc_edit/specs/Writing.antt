-- What may be written into a document.
use Rattle.std.specs.Prelude.{ℕ, List, IsTrue}
use Rattle.jsonc_text.specs.Options.{Options}
use Rattle.jsonc_text.specs.Text.{Many}
use Rattle.jsonc_text.specs.Numbers.{NumberLit}
use Rattle.jsonc_text.specs.Plain.{Plain, Items, no_items, item, Members, no_members, member}
use Rattle.jsonc_sound.specs.Leaves.{is_inner_blank}
use Rattle.jsonc_sound.specs.Shape.{IsText}
use Rattle.jsonc_layout.specs.from_input.Layout.{Layout}
use Rattle.jsonc_layout.specs.from_input.Texts.{IsOfTexts}

-- an indent: blanks within a line, or none
abbrev pub IsIndent : List ℕ → Type 0
IsIndent s = IsText (Many is_inner_blank) s

-- a layout that documents of these options may have: its indents are indents, and the last of several lines has a comma only where that is allowed
pub record FitsLayout (o : Options) (layout : Layout) : Type 0 where
  pub current : IsIndent layout.current
  pub single : IsIndent layout.single
  pub commas : IsTrue layout.trailing_commas → IsTrue o.trailing_commas

-- each number in the value is one under these options, whole
abbrev mutual
  pub IsOfNumbers : Options → Plain → Type 0
  IsOfNumbers o Plain.null = Unit {0}
  IsOfNumbers o (Plain.boolean b) = Unit {0}
  IsOfNumbers o (Plain.number s) = NumberLit o s
  IsOfNumbers o (Plain.string s) = Unit {0}
  IsOfNumbers o (Plain.array vs) = AreOfNumbers o vs
  IsOfNumbers o (Plain.object ms) = AreNamedOfNumbers o ms

  pub AreOfNumbers : Options → Items → Type 0
  AreOfNumbers o no_items = Unit {0}
  AreOfNumbers o (item v vs) = IsOfNumbers o v × AreOfNumbers o vs

  pub AreNamedOfNumbers : Options → Members → Type 0
  AreNamedOfNumbers o no_members = Unit {0}
  AreNamedOfNumbers o (member name v ms) = IsOfNumbers o v × AreNamedOfNumbers o ms

-- a value that documents of these options can hold: its strings, names and numbers are characters, and its numbers are numbers
pub record IsWritable (o : Options) (v : Plain) : Type 0 where
  pub texts : IsOfTexts v
  pub numbers : IsOfNumbers o v
