-- A formatted text: the lexemes and comments of a text in their order, with other blanks between them.
use Rattle.std.specs.Prelude.{ℕ, zero, suc, ◌≡◌, ◌-◌, Bool, true, false, not, ◌&&◌, ◌||◌, ◌==◌, nat_lt, List, [], ◌∷◌, ◌++◌, length, take, if◌then◌else◌}
use Rattle.std.specs.List.{suffix_len}
use Rattle.jsonc_text.specs.Options.{Options}
use Rattle.jsonc_text.specs.Text.{Many, is_line_end}
use Rattle.jsonc_text.specs.Gaps.{is_blank}
use Rattle.jsonc_text.specs.Places.{ends_line, is_comment}
use Rattle.jsonc_text.specs.Lexemes.{punctuation, Scanned, lexeme, line_comment, block_comment, IsScanned}

-- a lexeme or a comment: the blanks before it, what it is, and how it is written
pub record Piece : Type 0 where
  pub gap : List ℕ
  pub what : Scanned
  pub text : List ℕ

-- a text is these pieces one after another, and then these blanks
pub data IsPieces (o : Options) (tail : List ℕ) : List ℕ → List Piece → Type 0 where
  no_more : Many is_blank tail [] → IsPieces o tail tail []
  piece : (p : Piece) {t u : List ℕ} {ps : List Piece} → Many is_blank p.gap [] → IsScanned o p.what (p.text ++ u) u → t ≡ p.gap ++ (p.text ++ u)
      → IsPieces o tail u ps → IsPieces o tail t (p ∷ ps)

-- the character of punctuation; 0 of anything else
abbrev pub mark : Scanned → ℕ
mark (lexeme (punctuation c)) = c
mark w = 0

-- `[` or `{`
abbrev pub opens : Scanned → Bool
opens w = mark w == 0x5B || mark w == 0x7B

-- `]` or `}`
abbrev pub closes : Scanned → Bool
closes w = mark w == 0x5D || mark w == 0x7D

-- `,` or `:`
abbrev pub separates : Scanned → Bool
separates w = mark w == 0x2C || mark w == 0x3A

abbrev pub is_line_comment : Scanned → Bool
is_line_comment (line_comment s) = true
is_line_comment w = false

-- the number of lines that end in these characters
abbrev pub lines : List ℕ → ℕ
lines [] = 0
lines (c ∷ s) = if ends_line c s then suc (lines s) else lines s

-- no line ends in them
abbrev pub in_line : List ℕ → Bool
in_line [] = true
in_line (c ∷ s) = not (is_line_end c) && in_line s

-- of n + 1 open containers the last one is closed by a piece that opens one, or that closes one, or neither
abbrev pub is_last : Bool → Bool → ℕ → Bool
is_last false true zero = true
is_last opening closing n = false

-- how many of n + 1 open containers, without one, are open after it
abbrev pub left_open : Bool → Bool → ℕ → ℕ
left_open true closing n = suc n
left_open false true zero = zero
left_open false true (suc n) = n
left_open false false n = n

-- these pieces close n + 1 containers, and no line ends up to the last bracket of those
abbrev pub on_one_line : ℕ → List Piece → Bool
on_one_line n [] = false
on_one_line n (p ∷ ps) = in_line p.gap && (in_line p.text && (is_last (opens p.what) (closes p.what) n || on_one_line (left_open (opens p.what) (closes p.what) n) ps))

-- the container whose opening bracket these pieces follow has nothing in it, or is on one line
abbrev pub is_flat : List Piece → Bool
is_flat [] = false
is_flat (p ∷ ps) = closes p.what || on_one_line 0 (p ∷ ps)

-- an entry begins with this piece, or after it on the same line with only block comments between
abbrev pub leads : Scanned → List Piece → Bool
leads (lexeme k) ps = not (closes (lexeme k) || separates (lexeme k))
leads (line_comment s) ps = false
leads (block_comment s) [] = false
leads (block_comment s) (p ∷ ps) = in_line p.gap && leads p.what ps

-- the end of a line, one level of indent, and whether each container that is not empty is put on several lines
pub record Style : Type 0 where
  pub line_end : List ℕ
  pub level : List ℕ
  pub expands : Bool

-- an open container: whether it is an object, whether it is on several lines, and whether its lines have one level more, as the value of a property that a line comment divides
pub record Frame : Type 0 where
  pub object : Bool
  pub spread : Bool
  pub shifted : Bool

-- what is known after a piece: the open containers, the innermost first; whether the piece opened that one; whether a property has begun and its value has not;
-- whether a line comment is in that property; whether the piece is a comment, and a line comment
pub record State : Type 0 where
  pub around : List Frame
  pub bare : Bool
  pub in_property : Bool
  pub shifted : Bool
  pub comment : Bool
  pub line : Bool

-- one level more, or none
abbrev pub shift : List ℕ → Bool → List ℕ
shift level b = if b then level else []

-- one level for each open container, and one for each that is shifted
abbrev pub indent : List ℕ → List Frame → List ℕ
indent level [] = []
indent level (f ∷ fs) = shift level f.shifted ++ (level ++ indent level fs)

-- the end of a line, after it a blank line or none, and the indent of the next line
abbrev pub new_line : Style → List Frame → (shifted blank : Bool) → List ℕ
new_line y around shifted blank = (if blank then y.line_end else []) ++ (y.line_end ++ (shift y.level shifted ++ indent y.level around))

-- the gap before a piece of a container on one line
abbrev pub gap_in_line : Bool → State → Scanned → List ℕ
gap_in_line object s w = if separates w || ((s.bare || closes w) && not object) then [] else 0x20 ∷ []

-- the gap before a piece of a container on several lines, or of none, other than its closing bracket
abbrev pub gap_on_lines : Style → State → Piece → List Piece → List ℕ
gap_on_lines y s p ps =
    if s.line then new_line y s.around s.shifted (nat_lt 1 (lines p.gap) && not (separates p.what || s.in_property))
    else (if separates p.what then []
    else (if s.in_property || (in_line p.gap && (s.comment || not (leads p.what ps))) then 0x20 ∷ []
    else new_line y s.around s.shifted (nat_lt 1 (lines p.gap) && not s.bare)))

-- the gap before a piece inside these containers
abbrev pub gap_in : Style → State → List Frame → Piece → List Piece → List ℕ
gap_in y s [] p ps = gap_on_lines y s p ps
gap_in y s (f ∷ fs) p ps =
    if s.bare && closes p.what then []
    else (if not f.spread then gap_in_line f.object s p.what
    else (if closes p.what then new_line y fs f.shifted false else gap_on_lines y s p ps))

abbrev pub without_first : List Frame → List Frame
without_first [] = []
without_first (f ∷ fs) = fs

abbrev pub is_object : List Frame → Bool
is_object [] = false
is_object (f ∷ fs) = f.object

-- the state after a lexeme
abbrev pub past : List Frame → (bare in_property shifted : Bool) → State
past around bare in_property shifted = record { around = around; bare = bare; in_property = in_property; shifted = shifted; comment = false; line = false }

-- the state after a piece that these pieces follow; of the literals in an object each is a name, or the value of the property that has begun
abbrev pub after : Style → State → Scanned → List Piece → State
after y s w ps =
    if opens w then past (record { object = mark w == 0x7B; spread = y.expands || not (is_flat ps); shifted = s.shifted } ∷ s.around) true false false
    else (if closes w then past (without_first s.around) false false false
    else (if separates w then past s.around false (mark w == 0x3A) (mark w == 0x3A && s.shifted)
    else (if is_comment w then record s { bare = false; shifted = (is_line_comment w && s.in_property) || s.shifted; comment = true; line = is_line_comment w }
    else past s.around false (is_object s.around && not s.in_property) false)))

-- before the first piece
abbrev pub start : State
start = past [] false false false

-- a piece as it is written: a line comment without the blanks that end it
abbrev pub written : Scanned → List ℕ → List ℕ
written (line_comment c) s = take (length s - suffix_len is_blank s) s
written w s = s

-- these pieces after others, and the end of the last line
abbrev pub layout_after : Style → State → List Piece → List ℕ
layout_after y s [] = y.line_end
layout_after y s (p ∷ ps) = gap_in y s s.around p ps ++ (written p.what p.text ++ layout_after y (after y s p.what ps) ps)

-- the text that these pieces become
abbrev pub layout : Style → List Piece → List ℕ
layout y [] = []
layout y (p ∷ ps) = written p.what p.text ++ layout_after y (after y start p.what ps) ps

-- the second text is the first one formatted in this style
pub record IsFormatted (o : Options) (y : Style) (text formatted : List ℕ) : Type 0 where
  pub pieces : List Piece
  pub tail : List ℕ
  pub parts : IsPieces o tail text pieces
  pub same : formatted ≡ layout y pieces
