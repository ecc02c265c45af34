-- The pieces of a text from a place on.
use Rattle.std.specs.Prelude.{ℕ, ◌≡◌, ◌⊎◌, Bool, List, chars, slice_range}
use Rattle.jsonc_format.specs.Flags.{flats}
use Rattle.jsonc_text.specs.Options.{Options}
use Rattle.jsonc_text.specs.Text.{rest, Many, Spans}
use Rattle.jsonc_text.specs.Gaps.{is_blank}
use Rattle.jsonc_text.specs.Lexemes.{Scanned, block_comment, IsScanned}
use Rattle.jsonc_format.specs.declared.class.Class.{Class}
use Rattle.jsonc_format.specs.declared.stop.Stop.{Stop}
use Rattle.jsonc_format.specs.declared.stop.Stop.TheVariants as stop
use Rattle.jsonc_format.specs.Classes.{IsOf}
use Rattle.jsonc_format.specs.Format.{Piece, IsPieces, leads}

-- the text is no pieces
abbrev pub HasNoPieces : Options → List ℕ → Type 0
HasNoPieces o t = (tail : List ℕ) (ps : List Piece) → IsPieces o tail t ps → ⊥

-- blanks, and then this lexeme or comment
pub record IsReadAt (o : Options) (bytes : List ℕ) (from begin end : ℕ) (w : Scanned) : Type 0 where
  pub gap : Spans bytes from begin
  pub text : Spans bytes begin end
  pub blanks : Many is_blank (rest bytes from) (rest bytes begin)
  pub scanned : IsScanned o w (rest bytes begin) (rest bytes end)

abbrev pub piece_at : List ℕ → (from begin end : ℕ) → Scanned → Piece
piece_at bytes from begin end w = record { gap = chars (slice_range bytes from begin); what = w; text = chars (slice_range bytes begin end) }

-- an entry begins with a piece of this class that the text follows, or after it on its line past block comments, or not
abbrev pub Leads : Options → Class → List ℕ → Bool → Type 0
Leads o class t b = (w : Scanned) (tail : List ℕ) (ps : List Piece) → IsOf class w → IsPieces o tail t ps → leads w ps ≡ b

-- the same of a block comment
abbrev pub LeadsOn : Options → List ℕ → Bool → Type 0
LeadsOn o t b = (s tail : List ℕ) (ps : List Piece) → IsPieces o tail t ps → leads (block_comment s) ps ≡ b

-- allocation failed, or the text is no pieces
abbrev pub IsPiecesError : Options → List ℕ → Stop → Type 0
IsPiecesError o t e = (e ≡ stop.Memory) ⊎ HasNoPieces o t

-- of each container of the text, whether it is empty or on one line
abbrev pub AreFlagsOf : Options → List ℕ → List Bool → Type 0
AreFlagsOf o bytes flat = (tail : List ℕ) (ps : List Piece) → IsPieces o tail (chars bytes) ps → flat ≡ flats ps
