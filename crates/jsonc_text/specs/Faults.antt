-- What is true of every fault of a text.
use Rattle.std.specs.Prelude.{ℕ, ◌≡◌, List, chars}
use Rattle.jsonc_text.specs.declared.errors.ParseError.{ParseError}
use Rattle.jsonc_text.specs.declared.errors.ParseErrorKind.{ParseErrorKind}
use Rattle.jsonc_text.specs.declared.errors.ParseErrorKind.TheVariants.{OutOfMemory}
use Rattle.jsonc_text.specs.declared.common.Range.{Range}
use Rattle.jsonc_text.specs.Text.{Spans}
use Rattle.jsonc_text.specs.Places.{LineColumn}

-- the bytes that a fault is told of, its line and column, and what it is
abbrev pub range_of : ParseError → Range
range_of e = e.range

abbrev pub line_of : ParseError → ℕ
line_of e = e.line_display

abbrev pub column_of : ParseError → ℕ
column_of e = e.column_display

abbrev pub kind_of : ParseError → ParseErrorKind
kind_of e = e.kind

abbrev pub nowhere : Range
nowhere = record { start = 0; end = 0 }

-- allocation failure is told of no bytes
pub record IsOutOfMemory (e : ParseError) : Type 0 where
  pub kind : kind_of e ≡ OutOfMemory
  pub range : range_of e ≡ nowhere
  pub line : line_of e ≡ 1
  pub column : column_of e ≡ 1

-- the fault's range lies in the text (its bytes), and its line and column are those of the range's start
pub record IsFault (bytes : List ℕ) (e : ParseError) : Type 0 where
  pub range : Spans bytes (range_of e).start (range_of e).end
  pub place : LineColumn (chars bytes) (range_of e).start (line_of e) (column_of e)
  pub memory : kind_of e ≡ OutOfMemory → IsOutOfMemory e
