-- The lexemes of a text (RFC 8259, 2).
use Rattle.std.specs.Prelude.{ℕ, ◌≡◌, Bool, ◌||◌, ◌==◌, List, ◌∷◌, ◌++◌, IsTrue}
use Rattle.jsonc_text.specs.Options.{Options}
use Rattle.jsonc_text.specs.Text.{next, no}
use Rattle.jsonc_text.specs.Gaps.{LineComment, BlockComment, is_in_line}
use Rattle.jsonc_text.specs.Numbers.{Number, MayFollow}
use Rattle.jsonc_text.specs.Strings.{IsString}
use Rattle.jsonc_text.specs.Words.{Keyword, IsKeyword, WordLit, EndsWord, EndsThere}

-- a string with what it stands for, a number and a word with their text
pub data LexemeKind : Type 0 where
  string : List ℕ → LexemeKind
  number : List ℕ → LexemeKind
  word : List ℕ → LexemeKind
  keyword : Keyword → LexemeKind
  punctuation : ℕ → LexemeKind

-- `{`, `}`, `[`, `]`, `,` or `:`
abbrev pub is_punctuation : ℕ → Bool
is_punctuation c = c == 0x7B || c == 0x7D || c == 0x5B || c == 0x5D || c == 0x2C || c == 0x3A

-- t is a lexeme of this kind, and then r
abbrev pub Lexeme : Options → LexemeKind → List ℕ → List ℕ → Type 0
Lexeme o (string v) t r = IsString o t v r
Lexeme o (number s) t r = (t ≡ s ++ r) × Number o t r
Lexeme o (word s) t r = (t ≡ s ++ r) × WordLit o s (next r)
Lexeme o (keyword k) t r = IsKeyword k t r
Lexeme o (punctuation c) t r = IsTrue (is_punctuation c) × (t ≡ c ∷ r)

-- what a scanner answers: a lexeme, or a comment with the text inside its marks
pub data Scanned : Type 0 where
  lexeme : LexemeKind → Scanned
  line_comment : List ℕ → Scanned
  block_comment : List ℕ → Scanned

-- t is this lexeme or comment, and then r
abbrev pub IsScanned : Options → Scanned → List ℕ → List ℕ → Type 0
IsScanned o (lexeme k) t r = Lexeme o k t r
IsScanned o (line_comment s) t r = LineComment t r × (t ≡ (0x2F ∷ 0x2F ∷ s) ++ r)
IsScanned o (block_comment s) t r = BlockComment t r × (t ≡ (0x2F ∷ 0x2A ∷ s) ++ 0x2A ∷ 0x2F ∷ r)

-- a lexeme or comment with the text s ends where r follows
abbrev pub CanEndBefore : Scanned → List ℕ → List ℕ → Type 0
CanEndBefore (lexeme (string v)) s r = Unit {0}
CanEndBefore (lexeme (number n)) s r = MayFollow s r
CanEndBefore (lexeme (word n)) s r = EndsWord (next r)
CanEndBefore (lexeme (keyword k)) s r = EndsThere (next r)
CanEndBefore (lexeme (punctuation c)) s r = Unit {0}
CanEndBefore (line_comment c) s r = IsTrue (no is_in_line (next r))
CanEndBefore (block_comment c) s r = Unit {0}
