-- What a token stands for.
use Rattle.std.specs.Prelude.{ℕ, List, [], ◌∷◌, Bool, ◌==◌, Option, Some, None, chars}
use Rattle.std.specs.Ordering.{on, eq_of_both}
use Rattle.std.specs.Cmp.Lexicographic.{pointwise}
use Rattle.std.specs.Cow.{cow_str_bytes, IsOwnedStr}
use Rattle.std.specs.declared.borrow.CowStr.TheVariants as cow
use Rattle.jsonc_text.specs.declared.tokens.Token.{Token}
use Rattle.jsonc_text.specs.declared.tokens.Token.TheVariants.{OpenBrace, CloseBrace, OpenBracket, CloseBracket, Comma, Colon, String, Word, Boolean, Number, Null, CommentLine, CommentBlock}
use Rattle.jsonc_text.specs.Lexemes.{Scanned, lexeme, line_comment, block_comment, LexemeKind, punctuation, string, word, number, keyword}
use Rattle.jsonc_text.specs.Words.{boolean, null, keyword_text}

-- the characters of a lexeme, of a string those that it stands for
abbrev pub lexeme_text : LexemeKind → List ℕ
lexeme_text (string v) = v
lexeme_text (number s) = s
lexeme_text (word s) = s
lexeme_text (keyword k) = keyword_text k
lexeme_text (punctuation c) = c ∷ []

-- of a comment, those inside its marks
abbrev pub scanned_text : Scanned → List ℕ
scanned_text (lexeme k) = lexeme_text k
scanned_text (line_comment s) = s
scanned_text (block_comment s) = s

-- a number for each kind of lexeme and comment
abbrev pub lexeme_class : LexemeKind → ℕ
lexeme_class (string v) = 0
lexeme_class (number s) = 1
lexeme_class (word s) = 2
lexeme_class (keyword k) = 3
lexeme_class (punctuation c) = 4

abbrev pub scanned_class : Scanned → ℕ
scanned_class (lexeme k) = lexeme_class k
scanned_class (line_comment s) = 5
scanned_class (block_comment s) = 6

-- the same kind and the same characters
abbrev pub same_scanned : Scanned → Scanned → Bool
same_scanned = eq_of_both (on scanned_class ◌==◌) (on scanned_text (pointwise ◌==◌))

module _ {A : Type 0} where
  -- the lexeme or comment that a token is
  abbrev pub scanned_of : Token A → Scanned
  scanned_of OpenBrace = lexeme (punctuation 0x7B)
  scanned_of CloseBrace = lexeme (punctuation 0x7D)
  scanned_of OpenBracket = lexeme (punctuation 0x5B)
  scanned_of CloseBracket = lexeme (punctuation 0x5D)
  scanned_of Comma = lexeme (punctuation 0x2C)
  scanned_of Colon = lexeme (punctuation 0x3A)
  scanned_of (String s) = lexeme (string (chars (cow_str_bytes s)))
  scanned_of (Word s) = lexeme (word (chars s.now))
  scanned_of (Boolean b) = lexeme (keyword (boolean b))
  scanned_of (Number s) = lexeme (number (chars s.now))
  scanned_of Null = lexeme (keyword null)
  scanned_of (CommentLine s) = line_comment (chars s.now)
  scanned_of (CommentBlock s) = block_comment (chars s.now)

  -- it is a string that owns its text
  abbrev pub IsOwned : Token A → Type 0
  IsOwned (String s) = IsOwnedStr s
  IsOwned _ = ⊥

  -- the bytes that a string is lent by the text, where it owns none
  abbrev pub lent_bytes : Token A → Option (List ℕ)
  lent_bytes (String (cow.Borrowed s)) = Some s.now
  lent_bytes _ = None
