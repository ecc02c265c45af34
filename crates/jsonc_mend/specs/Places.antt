-- Places of a text with their lines and columns.
use Rattle.std.specs.Prelude.{ℕ, ◌+◌, ◌≤◌, List, IsCharBoundary, chars}
use Rattle.jsonc_text.specs.Places.{LineColumn}
use Rattle.jsonc_mend.specs.declared.places.Known.{Known}

-- the place of the text is in this line and column, neither of which is greater than the place allows
pub record IsKnown (bytes : List ℕ) (k : Known) : Type 0 where
  pub boundary : IsCharBoundary bytes k.place
  pub position : LineColumn (chars bytes) k.place k.line k.column
  pub line : k.line ≤ k.place + 1
  pub column : k.column ≤ k.place + 1
