-- Lines and columns of a text, the column in any unit: w c is how many units a character c takes.
use Rattle.std.specs.Prelude.{ℕ, ◌+◌, ◌≡◌, cond, List, [], ◌∷◌, ◌++◌, length}
use Rattle.std.specs.Char.Escape.{encode_utf16}
use Rattle.jsonc_text.specs.Chars.{Steps}
use Rattle.jsonc_text.specs.Text.{byte_length, rest}
use Rattle.jsonc_text.specs.Places.{ends_line}
use Rattle.jsonc_parser.specs.declared.places.ColumnUnit.{ColumnUnit}
use Rattle.jsonc_parser.specs.declared.places.Reached.{Reached}
use Rattle.jsonc_parser.specs.declared.places.ColumnUnit.TheVariants.{Character, Utf16}

-- past the character c, where r follows it: a line end leads to column 1 of the next line, any other character w c columns further
abbrev pub past : (ℕ → ℕ) → ℕ × ℕ → ℕ → List ℕ → ℕ × ℕ
past w at c r = cond (ends_line c r) (at.0 + 1, 1) (at.0, at.1 + w c)

-- past the characters s, where r follows them
abbrev pub walked_by : (ℕ → ℕ) → ℕ × ℕ → List ℕ → List ℕ → ℕ × ℕ
walked_by w at [] r = at
walked_by w at (c ∷ s) r = walked_by w (past w at c (s ++ r)) s r

-- from a place in its line and column over the character there, to the place after it
abbrev pub StepsPast : (ℕ → ℕ) → List ℕ → Reached → Reached → Type 0
StepsPast w bytes from to = (c : ℕ) × Steps bytes from.place c to.place × ((to.at.line, to.at.column) ≡ past w (from.at.line, from.at.column) c (rest bytes to.place))

-- the place, after so many bytes of t, is in this line and column, both counted from 1
pub record LineColumnBy (w : ℕ → ℕ) (t : List ℕ) (place line column : ℕ) : Type 0 where
  pub before : List ℕ
  pub after : List ℕ
  pub split : t ≡ before ++ after
  pub at : byte_length before ≡ place
  pub position : (line, column) ≡ walked_by w (1, 1) before after

-- how many UTF-16 code units a character takes: two above U+FFFF, and one otherwise
abbrev pub utf16_units : ℕ → ℕ
utf16_units c = length (encode_utf16 c)

-- the place is in this line and column, the column in UTF-16 code units
abbrev pub LineColumnUtf16 : List ℕ → ℕ → ℕ → ℕ → Type 0
LineColumnUtf16 = LineColumnBy utf16_units

-- how many of these units a character takes
abbrev pub units : ColumnUnit → ℕ → ℕ
units Character c = 1
units Utf16 c = utf16_units c

-- no two places of t are in one line and column
abbrev pub HasOnePlace : ColumnUnit → List ℕ → Type 0
HasOnePlace u t = (p q line column : ℕ) → LineColumnBy (units u) t p line column → LineColumnBy (units u) t q line column → p ≡ q
