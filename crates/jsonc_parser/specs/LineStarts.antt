-- The places where the lines of a text begin.
use Rattle.std.specs.Prelude.{ℕ, ◌+◌, ◌<◌, ◌≤◌, List, length, slice_index}
use Rattle.jsonc_parser.specs.Places.{LineColumnBy, units}
use Rattle.jsonc_parser.specs.declared.places.ColumnUnit.TheVariants.{Character, Utf16}
use Rattle.jsonc_parser.specs.declared.line_index.Mark.{Mark}

-- These are the places where the lines of t begin, in their order. Each is in column 1 of its line, whatever a column counts; what is before it is in a line
-- before; and there are no more lines.
pub record AreLineStarts (t starts : List ℕ) : Type 0 where
  pub begins : (w : ℕ → ℕ) (i : ℕ) → i < length starts → LineColumnBy w t (slice_index starts i) (i + 1) 1
  pub first : (w : ℕ → ℕ) (i : ℕ) → i < length starts → (p line column : ℕ) → LineColumnBy w t p line column → p < slice_index starts i → line < i + 1
  pub all : (w : ℕ → ℕ) (p line column : ℕ) → LineColumnBy w t p line column → line ≤ length starts

-- the place of the mark is in its line and column of t, in each unit
pub record IsMark (t : List ℕ) (m : Mark) : Type 0 where
  pub characters : LineColumnBy (units Character) t m.place m.characters.line m.characters.column
  pub utf16 : LineColumnBy (units Utf16) t m.place m.utf16.line m.utf16.column
