-- The blanks between two pieces, at places of a text.
use Rattle.std.specs.Prelude.{ℕ, suc, ◌≡◌, List, IsCharBoundary, not, nat_lt, if◌then◌else◌}
use Rattle.jsonc_text.specs.Text.{Many, rest}
use Rattle.jsonc_text.specs.string.Between.{LacksAt, is_neither}
use Rattle.jsonc_format.specs.declared.gaps.Ends.{Ends}
use Rattle.jsonc_format.specs.Format.{in_line, lines}

-- this is what ends in a gap
pub record AreEnds (e : Ends) (gap : List ℕ) : Type 0 where
  pub any : e.any ≡ not (in_line gap)
  pub several : e.several ≡ nat_lt 1 (lines gap)

-- the first place from another one on where a line ends, or the end of the text
pub record IsNextEnd (bytes : List ℕ) (from place : ℕ) : Type 0 where
  pub boundary : IsCharBoundary bytes place
  pub passed : Many (is_neither 0x0A 0x0D) (rest bytes from) (rest bytes place)
  pub stops : LacksAt (is_neither 0x0A 0x0D) bytes place

-- one place has what follows the end of the line that is at another
pub record IsPastLine (bytes : List ℕ) (place next : ℕ) : Type 0 where
  pub boundary : IsCharBoundary bytes next
  pub counted : lines (rest bytes place) ≡ (if in_line (rest bytes place) then lines (rest bytes next) else suc (lines (rest bytes next)))
