-- What the laws of formatted texts speak of.
use Rattle.std.specs.Prelude.{ℕ, zero, suc, ◌≡◌, ◌-◌, Bool, true, false, not, ◌&&◌, ◌||◌, List, [], ◌∷◌, ◌++◌, length, take, Option}
use Rattle.std.specs.List.{suffix_len, cons_option}
use Rattle.jsonc_text.specs.Options.{Options}
use Rattle.jsonc_text.specs.Gaps.{is_blank}
use Rattle.jsonc_text.specs.Lexemes.{Scanned, line_comment, IsScanned}
use Rattle.jsonc_text.specs.Grammar.{IsDocument}
use Rattle.jsonc_text.specs.Plain.{Plain}
use Rattle.jsonc_text.specs.Marks.{Mark, MarksTo, mark_of}
use Rattle.jsonc_format.specs.Format.{Style, State, Frame, Piece, IsPieces, closes, is_last, left_open, on_one_line, gap_in, after, start, written, layout_after, layout, IsFormatted}
use Rattle.jsonc_format.specs.Styles.{IsProper}

-- the marks of pieces, in order
abbrev pub marks_of : List Piece → List Mark
marks_of [] = []
marks_of (p ∷ ps) = cons_option (mark_of p.what p.text) (marks_of ps)

-- these pieces with the gaps that are written before them, after others
abbrev pub respaced_after : Style → State → List Piece → List Piece
respaced_after y s [] = []
respaced_after y s (p ∷ ps) = record p { gap = gap_in y s s.around p ps } ∷ respaced_after y (after y s p.what ps) ps

-- all pieces of a text with such gaps
abbrev pub respaced : Style → List Piece → List Piece
respaced y [] = []
respaced y (p ∷ ps) = record p { gap = [] } ∷ respaced_after y (after y start p.what ps) ps

-- pieces with such gaps become the text that the pieces became
abbrev pub BecomesTheSame : Style → List Piece → Type 0
BecomesTheSame y ps = layout y (respaced y ps) ≡ layout y ps

-- the container around n others, of those that are open, is on several lines
abbrev pub spread_at : List Frame → ℕ → Bool
spread_at [] n = false
spread_at (f ∷ fs) zero = f.spread
spread_at (f ∷ fs) (suc n) = spread_at fs n

-- that one is on one line, and so are those inside it
abbrev pub flat_to : List Frame → ℕ → Bool
flat_to [] n = false
flat_to (f ∷ fs) zero = not f.spread
flat_to (f ∷ fs) (suc n) = not f.spread && flat_to fs n

abbrev pub closes_first : List Piece → Bool
closes_first [] = false
closes_first (p ∷ ps) = closes p.what

-- where a container has just been opened, and it is the one asked of, these pieces do not close it at once
abbrev pub fills : ℕ → Bool → List Piece → Bool
fills (suc n) bare ps = true
fills zero false ps = true
fills zero true ps = not (closes_first ps)

-- after a piece that opens or closes a container or does neither, the last of n + 1 is closed, or closed by these pieces on the same line
abbrev pub closed_on_it : Bool → Bool → ℕ → List Piece → Bool
closed_on_it op cl n ps = is_last op cl n || on_one_line (left_open op cl n) ps

-- no container is open, or the innermost one is on several lines
abbrev pub is_open : List Frame → Bool
is_open [] = true
is_open (f ∷ fs) = f.spread

-- each of these pieces ends before what is written after it, and no line comment among them ends in blanks
abbrev pub Apart : Options → Style → State → List Piece → Type 0
Apart o y s [] = Unit {0}
Apart o y s (p ∷ ps) =
    let z = after y s p.what ps in
    (written p.what p.text ≡ p.text) × IsScanned o p.what (p.text ++ layout_after y z ps) (layout_after y z ps) × Apart o y z ps

-- where its pieces are apart, a formatted text is its own formatted text
abbrev pub IsItsOwn : Options → Style → List ℕ → List ℕ → Type 0
IsItsOwn o y text formatted = (f : IsFormatted o y text formatted) → Apart o y start f.pieces → IsFormatted o y formatted formatted

-- and has the marks of the text
abbrev pub KeepsMarks : Options → Style → List ℕ → List ℕ → Type 0
KeepsMarks o y text formatted = (f : IsFormatted o y text formatted) → Apart o y start f.pieces
    → MarksTo o [] text (marks_of f.pieces) × MarksTo o [] formatted (marks_of f.pieces)

-- a line comment without the blanks that end it; all else as it is
abbrev pub ended : Scanned → Scanned
ended (line_comment s) = line_comment (take (length s - suffix_len is_blank s) s)
ended w = w

-- what is written of a piece, without the blanks before it
abbrev pub content : Scanned → List ℕ → Piece
content w s = record { gap = []; what = ended w; text = written w s }

-- of pieces in their order
abbrev pub contents : List Piece → List Piece
contents [] = []
contents (p ∷ ps) = content p.what p.text ∷ contents ps

-- a text has pieces with these contents
pub record HasContents (o : Options) (t : List ℕ) (cs : List Piece) : Type 0 where
  pub tail : List ℕ
  pub pieces : List Piece
  pub parts : IsPieces o tail t pieces
  pub same : contents pieces ≡ cs

-- the formatted text of a document is a document with its value and its marks, has the contents of its pieces, and is its own formatted text
pub record KeepsDocument (o : Options) (y : Style) (text formatted : List ℕ) (v : Option Plain) : Type 0 where
  pub value : IsDocument o formatted v
  pub marks : (ms : List Mark) × MarksTo o [] text ms × MarksTo o [] formatted ms
  pub blanks : (cs : List Piece) × HasContents o text cs × HasContents o formatted cs
  pub again : IsFormatted o y formatted formatted

-- the second text is the first one formatted in some style, whose lines end as lines do and whose indents are blanks
abbrev pub HasStyle : Options → List ℕ → List ℕ → Type 0
HasStyle o text formatted = (y : Style) × IsProper y × IsFormatted o y text formatted
