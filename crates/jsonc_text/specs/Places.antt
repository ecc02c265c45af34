-- Lines and columns, and the lexemes and comments of a text with their places.
use Rattle.std.specs.Prelude.{ℕ, ◌+◌, ◌≡◌, Bool, true, false, cond, ◌&&◌, ◌||◌, ◌==◌, List, [], ◌∷◌, ◌++◌, IsTrue}
use Rattle.jsonc_text.specs.Options.{Options}
use Rattle.jsonc_text.specs.Text.{next, no, byte_length}
use Rattle.jsonc_text.specs.Gaps.{is_blank}
use Rattle.jsonc_text.specs.Lexemes.{Scanned, lexeme, line_comment, block_comment, IsScanned}

-- an LF, or a CR that no LF follows
abbrev pub ends_line : ℕ → List ℕ → Bool
ends_line c r = c == 0x0A || (c == 0x0D && no (λ d. d == 0x0A) (next r))

-- from this line and column over the characters s, where r follows s: a line end leads to column 1 of the next line, any other character to the next column
abbrev pub walked : ℕ → ℕ → List ℕ → List ℕ → ℕ × ℕ
walked line column [] r = (line, column)
walked line column (c ∷ s) r = cond (ends_line c (s ++ r)) (walked (line + 1) 1 s r) (walked line (column + 1) s r)

-- the place, after so many bytes of t, is in this line and column, both counted from 1
pub record LineColumn (t : List ℕ) (place line column : ℕ) : Type 0 where
  pub before : List ℕ
  pub after : List ℕ
  pub split : t ≡ before ++ after
  pub at : byte_length before ≡ place
  pub position : (line, column) ≡ walked 1 1 before after

-- a lexeme or a comment, from the place start to the place end
pub record Placed : Type 0 where
  pub what : Scanned
  pub start : ℕ
  pub end : ℕ

-- what stands at a place with the text s
abbrev pub placed_at : Scanned → ℕ → List ℕ → Placed
placed_at w at s = record { what = w; start = at; end = at + byte_length s }

-- t, which stands at a place, is these lexemes and comments in their order with blanks between them
pub data AreTokens (o : Options) : ℕ → List ℕ → List Placed → Type 0 where
  no_more : {at : ℕ} → AreTokens o at [] []
  blank : {at c : ℕ} {t : List ℕ} {ts : List Placed} → IsTrue (is_blank c) → AreTokens o (at + byte_length (c ∷ [])) t ts → AreTokens o at (c ∷ t) ts
  one : (w : Scanned) (s : List ℕ) {at : ℕ} {t r : List ℕ} {ts : List Placed} → IsScanned o w t r → t ≡ s ++ r
      → AreTokens o (at + byte_length s) r ts → AreTokens o at t (placed_at w at s ∷ ts)

-- it is no lexeme
abbrev pub is_comment : Scanned → Bool
is_comment (lexeme k) = false
is_comment (line_comment s) = true
is_comment (block_comment s) = true

-- comments between two neighbouring lexemes, or an end of the text: the two ends of the gap, and the comments in order
pub record CommentGap : Type 0 where
  pub start : ℕ
  pub end : ℕ
  pub comments : List Placed

-- gs, and before them the gap with these two ends where it has comments
abbrev pub noted : ℕ → ℕ → List Placed → List CommentGap → List CommentGap
noted start end [] gs = gs
noted start end (c ∷ cs) gs = record { start = start; end = end; comments = c ∷ cs } ∷ gs

-- the gaps that have comments, of tokens with the text's length; the gap before them begins at start and has held some
abbrev pub gaps_of : ℕ → ℕ → List Placed → List Placed → List CommentGap
gaps_of len start held [] = noted start len held []
gaps_of len start held (x ∷ xs) = cond (is_comment x.what) (gaps_of len start (held ++ x ∷ []) xs) (noted start x.start held (gaps_of len x.end [] xs))

-- the gaps of t that have comments; where o allows no comments there is none
abbrev pub Gaps : Options → List ℕ → List CommentGap → Type 0
Gaps o t gs = (ts : List Placed) × AreTokens o 0 t ts × (gs ≡ cond o.comments (gaps_of (byte_length t) 0 [] ts) [])
