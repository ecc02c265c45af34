-- What is asked of a style, and what a text tells of its own.
use Rattle.std.specs.Prelude.{ℕ, suc, ◌-◌, ◌≡◌, Bool, true, false, not, ◌&&◌, ◌==◌, nat_lt, IsTrue, Option, Some, None, List, [], ◌∷◌, if◌then◌else◌}
use Rattle.jsonc_text.specs.Options.{Options}
use Rattle.jsonc_text.specs.Text.{Many, next, starts, is_line_end}
use Rattle.jsonc_text.specs.Gaps.{is_blank}
use Rattle.jsonc_format.specs.Format.{Style, State, Piece, IsPieces, in_line, opens, closes, gap_on_lines, leads, layout}

-- the end of one line
pub data IsLineEnd : List ℕ → Type 0 where
  line_feed : IsLineEnd (0x0A ∷ [])
  carriage_return : IsLineEnd (0x0D ∷ [])
  both : IsLineEnd (0x0D ∷ 0x0A ∷ [])

-- lines end as lines do, and a level of indent is blanks in which none ends
pub record IsProper (y : Style) : Type 0 where
  pub ends : IsLineEnd y.line_end
  pub stays : IsTrue (in_line y.level)
  pub blank : Many is_blank y.level []

-- what a caller asks for; where it is none, the text tells
pub record Wish : Type 0 where
  pub line_end : Option (List ℕ)
  pub level : Option (List ℕ)
  pub expands : Bool

abbrev pub or_else : Option (List ℕ) → List ℕ → List ℕ
or_else None s = s
or_else (Some s) other = s

-- the first end of a line among these characters, or else what follows from others
abbrev pub first_end : List ℕ → List ℕ → List ℕ
first_end [] other = other
first_end (c ∷ s) other =
    if c == 0x0A then 0x0A ∷ []
    else (if c == 0x0D then (if starts (λ d. d == 0x0A) (next s) then 0x0D ∷ 0x0A ∷ [] else 0x0D ∷ []) else first_end s other)

-- that in the gaps of these pieces or in the blanks after them, or else LF
abbrev pub line_end_of : List Piece → List ℕ → List ℕ
line_end_of [] tail = first_end tail (0x0A ∷ [])
line_end_of (p ∷ ps) tail = first_end p.gap (line_end_of ps tail)

-- the characters after the last end of a line, or none
abbrev pub last_line : List ℕ → List ℕ
last_line [] = []
last_line (c ∷ s) = if is_line_end c && in_line s then s else last_line s

abbrev pub is_empty : List ℕ → Bool
is_empty [] = true
is_empty (c ∷ s) = false

-- the number of open containers after a piece
abbrev pub depth_after : Bool → Bool → ℕ → ℕ
depth_after true closing n = suc n
depth_after false true n = n - 1
depth_after false false n = n

-- these characters at the beginning of a line, inside of so many containers, are an indent that is not empty
abbrev pub tells_level : ℕ → List ℕ → Bool
tells_level depth s = nat_lt 0 depth && not (is_empty s)

-- the first indent that is not empty of a line that begins with one of these pieces, inside of so many containers and at least one; or else two spaces
abbrev pub level_of : ℕ → List Piece → List ℕ
level_of n [] = 0x20 ∷ 0x20 ∷ []
level_of n (p ∷ ps) = if tells_level n (last_line p.gap) then last_line p.gap else level_of (depth_after (opens p.what) (closes p.what) n) ps

-- the style that a wish is for these pieces and the blanks after them
pub record IsStyleFor (wish : Wish) (tail : List ℕ) (pieces : List Piece) (y : Style) : Type 0 where
  pub ends : y.line_end ≡ or_else wish.line_end (line_end_of pieces tail)
  pub level : y.level ≡ or_else wish.level (level_of 0 pieces)
  pub expands : y.expands ≡ wish.expands

-- the second text is the first one formatted as it is wished
pub record IsFormattedAs (o : Options) (wish : Wish) (text formatted : List ℕ) : Type 0 where
  pub pieces : List Piece
  pub tail : List ℕ
  pub parts : IsPieces o tail text pieces
  pub style : Style
  pub fits : IsStyleFor wish tail pieces style
  pub same : formatted ≡ layout style pieces

-- what is written before a piece on several lines is written there again, whatever follows, if an entry leads as before
abbrev pub IsWrittenAgain : Style → State → Piece → (ps qs : List Piece) → Type 0
IsWrittenAgain y s p ps qs = leads p.what qs ≡ leads p.what ps
    → gap_on_lines y s (record p { gap = gap_on_lines y s p ps }) qs ≡ gap_on_lines y s p ps
