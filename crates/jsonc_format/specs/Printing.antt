-- How a text is written in a layout.
use Rattle.std.specs.Prelude.{ℕ, ◌≡◌, Bool, true, false, List, [], chars}
use Rattle.jsonc_text.specs.Options.{Options}
use Rattle.jsonc_text.specs.Text.{rest}
use Rattle.jsonc_text.specs.Lexemes.{Scanned}
use Rattle.jsonc_format.specs.declared.print.Read.{Read}
use Rattle.jsonc_format.specs.declared.track.Track.{Track}
use Rattle.jsonc_format.specs.Flags.{flats, flats_of}
use Rattle.jsonc_format.specs.Format.{Style, Piece, IsPieces, layout}
use Rattle.jsonc_format.specs.Pieces.{piece_at}
use Rattle.jsonc_format.specs.Styles.{Wish, IsFormattedAs}
use Rattle.jsonc_format.specs.Tracks.{PutsPiece}

-- this is what the pieces of the text become, where the flags are those of its containers
abbrev pub IsPrinted : Options → Style → List ℕ → List Bool → List ℕ → Type 0
IsPrinted o y bytes flat out = (tail : List ℕ) (ps : List Piece) → IsPieces o tail (chars bytes) ps → flat ≡ flats ps → out ≡ layout y ps

-- the end of the last line, where something is written
abbrev pub last_line_end : Bool → List ℕ → List ℕ
last_line_end true s = s
last_line_end false s = []

-- a piece that was read is written, and so is what is before it
abbrev pub PutsRead : {A : Type 0} → Options → List ℕ → Style → Read → Scanned → Track A → Track A → List ℕ → List ℕ → Type 0
PutsRead o bytes y read w old new was now = (tail : List ℕ) (ps : List Piece) → IsPieces o tail (rest bytes read.end) ps → old.flat.now ≡ flats_of w ps
    → PutsPiece y (piece_at bytes read.from read.start read.end w) ps old new was now

-- this is what the text becomes as it is wished, where it is pieces
abbrev pub FormatsPieces : Options → Wish → List ℕ → List ℕ → Type 0
FormatsPieces o wish text out = (tail : List ℕ) (ps : List Piece) → IsPieces o tail text ps → IsFormattedAs o wish text out
