-- What a token of a kind is.
use Rattle.std.specs.Prelude.{ℕ, ◌≡◌, true, false, List}
use Rattle.jsonc_scan.specs.declared.found.TokenKind.{TokenKind}
use Rattle.jsonc_scan.specs.declared.found.TokenKind.TheVariants as kind
use Rattle.jsonc_text.specs.Lexemes.{LexemeKind, Scanned, lexeme, line_comment, block_comment, punctuation, string, word, number, keyword}
use Rattle.jsonc_text.specs.Words.{boolean, null}

-- the literal is of this kind, and a string stands for v
abbrev pub IsLiteralOf : List ℕ → TokenKind → LexemeKind → Type 0
IsLiteralOf v kind.String l = l ≡ string v
IsLiteralOf v kind.Word l = (s : List ℕ) × (l ≡ word s)
IsLiteralOf v kind.Number l = (s : List ℕ) × (l ≡ number s)
IsLiteralOf v kind.True l = l ≡ keyword (boolean true)
IsLiteralOf v kind.False l = l ≡ keyword (boolean false)
IsLiteralOf v kind.Null l = l ≡ keyword null
IsLiteralOf v other l = ⊥

-- the token is
abbrev pub IsTokenOf : List ℕ → TokenKind → Scanned → Type 0
IsTokenOf v kind.OpenBrace w = w ≡ lexeme (punctuation 0x7B)
IsTokenOf v kind.CloseBrace w = w ≡ lexeme (punctuation 0x7D)
IsTokenOf v kind.OpenBracket w = w ≡ lexeme (punctuation 0x5B)
IsTokenOf v kind.CloseBracket w = w ≡ lexeme (punctuation 0x5D)
IsTokenOf v kind.Comma w = w ≡ lexeme (punctuation 0x2C)
IsTokenOf v kind.Colon w = w ≡ lexeme (punctuation 0x3A)
IsTokenOf v kind.CommentLine w = (s : List ℕ) × (w ≡ line_comment s)
IsTokenOf v kind.CommentBlock w = (s : List ℕ) × (w ≡ block_comment s)
IsTokenOf v k w = (l : LexemeKind) × IsLiteralOf v k l × (w ≡ lexeme l)
