-- Styles as a caller gives them.
use Rattle.std.specs.Prelude.{ℕ, ◌≡◌, List, [], ◌∷◌, chars, codes, take, Option, Some, None, option_map}
use Rattle.jsonc_text.specs.Options.{Options}
use Rattle.jsonc_format.specs.declared.style.LineEnd.{LineEnd}
use Rattle.jsonc_format.specs.declared.style.LineEnd.TheVariants as end
use Rattle.jsonc_format.specs.declared.style.Level.{Level}
use Rattle.jsonc_format.specs.declared.style.Level.TheVariants as level
use Rattle.jsonc_format.specs.declared.style.Style.{Style}
use Rattle.jsonc_format.specs.Format.{Piece, IsPieces}
use Rattle.jsonc_format.specs.Format as format
use Rattle.jsonc_format.specs.Styles.{Wish, IsStyleFor, line_end_of, level_of}

abbrev pub line_end_text : LineEnd → List ℕ
line_end_text end.Lf = 0x0A ∷ []
line_end_text end.CrLf = 0x0D ∷ 0x0A ∷ []
line_end_text end.Cr = 0x0D ∷ []

-- a tab, or so many spaces, but eight at most
abbrev pub level_text : Level → List ℕ
level_text (level.Spaces n) = take n (codes "        ")
level_text level.Tab = 0x09 ∷ []

abbrev pub wish_of : Style → Wish
wish_of s = record { line_end = option_map line_end_text s.line_end; level = option_map level_text s.level; expands = s.expand }

-- what the text tells of the end of its lines
abbrev pub IsLineEndOf : Options → List ℕ → List ℕ → Type 0
IsLineEndOf o bytes s = (tail : List ℕ) (ps : List Piece) → IsPieces o tail (chars bytes) ps → s ≡ line_end_of ps tail

-- and of one level of its indent
abbrev pub IsLevelOf : Options → List ℕ → List ℕ → Type 0
IsLevelOf o bytes s = (tail : List ℕ) (ps : List Piece) → IsPieces o tail (chars bytes) ps → s ≡ level_of 0 ps

-- what is wished, or else this
abbrev pub IsWishedOr : Option (List ℕ) → (List ℕ → Type 0) → List ℕ → Type 0
IsWishedOr None P s = P s
IsWishedOr (Some t) P s = s ≡ t

-- the style that a wish is for the text, if this has pieces
abbrev pub IsLayoutOf : Options → List ℕ → Wish → format.Style → Type 0
IsLayoutOf o bytes wish y = (tail : List ℕ) (ps : List Piece) → IsPieces o tail (chars bytes) ps → IsStyleFor wish tail ps y
