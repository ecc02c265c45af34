-- What a lexeme stands for, and where it was read.
use Rattle.std.specs.Prelude.{ℕ, ◌+◌, ◌-◌, ◌≡◌, ◌↔◌, slice_range, Bool, true, false, List, [], ◌∷◌, chars, codes, IsTrue, ◌==◌, ◌||◌, ◌&&◌}
use Rattle.jsonc_scan.specs.declared.lexeme.Lexeme.{Lexeme}
use Rattle.jsonc_scan.specs.declared.lexeme.Lexeme.TheVariants.{Word, Boolean, Number, Null, CommentLine, CommentBlock}
use Rattle.jsonc_scan.specs.declared.lexeme.Read.{Read}
use Rattle.jsonc_scan.specs.declared.lexeme.Mark.{Mark}
use Rattle.jsonc_scan.specs.declared.plain.PlainNumber.{PlainNumber}
use Rattle.jsonc_text.specs.string.Escapes.{HoldsBackslash, IsLentUnescaped, StringHoldsBackslash}
use Rattle.jsonc_text.specs.declared.string.pass.PassedString.{PassedString}
use Rattle.jsonc_text.specs.StringValue.{string_value}
use Rattle.jsonc_text.specs.declared.string.decode.Decoded.{Decoded}
use Rattle.std.specs.Cow.{cow_str_bytes, IsOwnedStr}
use Rattle.jsonc_text.specs.Options.{Options}
use Rattle.jsonc_text.specs.Lexemes.{Scanned, lexeme, line_comment, block_comment, punctuation, string, word, number, keyword, is_punctuation, Lexeme as IsLexeme, IsScanned}
use Rattle.jsonc_text.specs.Words.{boolean, null}
use Rattle.jsonc_text.specs.string.Between.{Between, Reaches, NoneFrom, LacksAt}
use Rattle.jsonc_scan.specs.Between.{HasAt, IsWhole, IsAlone}
use Rattle.jsonc_text.specs.Chars.{Steps}
use Rattle.jsonc_text.specs.Numbers.{Fraction, Unsigned, is_x, Number as IsNumber}
use Rattle.jsonc_text.specs.Text.{rest, next, starts, is_digit, Spans}

-- the token that a lexeme is
abbrev pub what_of : Lexeme → Scanned
what_of (Word s) = lexeme (word (chars s.now))
what_of (Boolean b) = lexeme (keyword (boolean b))
what_of (Number s) = lexeme (number (chars s.now))
what_of Null = lexeme (keyword null)
what_of (CommentLine s) = line_comment (chars s.now)
what_of (CommentBlock s) = block_comment (chars s.now)

abbrev pub mark_of : Mark → Scanned
mark_of Mark.OpenBrace = lexeme (punctuation 0x7B)
mark_of Mark.CloseBrace = lexeme (punctuation 0x7D)
mark_of Mark.OpenBracket = lexeme (punctuation 0x5B)
mark_of Mark.CloseBracket = lexeme (punctuation 0x5D)
mark_of Mark.Comma = lexeme (punctuation 0x2C)
mark_of Mark.Colon = lexeme (punctuation 0x3A)

-- the lexeme or comment stands at a place, and ends where it was read to
abbrev pub IsRead : Options → List ℕ → ℕ → Read → Type 0
IsRead o bytes start read = Between (IsScanned o (what_of read.lexeme)) bytes start read.end

-- under all options
abbrev pub IsReadAnyhow : List ℕ → ℕ → Read → Type 0
IsReadAnyhow bytes start read = (o : Options) → IsRead o bytes start read

-- under all options that allow `Infinity` and `NaN`
abbrev pub IsReadName : List ℕ → ℕ → Read → Type 0
IsReadName bytes start read = (o : Options) → IsTrue o.non_finite_numbers → IsRead o bytes start read

-- a number without its sign, with a sign before it or not
abbrev pub IsUnsigned : Options → List ℕ → ℕ → ℕ → Type 0
IsUnsigned o bytes start end = (signed : Bool) → Between (Unsigned o signed) bytes start end

-- a number without its sign, a fraction and a number, each under all options
abbrev pub IsUnsignedAnyhow : List ℕ → ℕ → ℕ → Type 0
IsUnsignedAnyhow bytes start end = (o : Options) → IsUnsigned o bytes start end

abbrev pub IsFractionAnyhow : List ℕ → ℕ → ℕ → Type 0
IsFractionAnyhow bytes start end = (o : Options) → Reaches (Fraction o) bytes start end

abbrev pub IsNumberAnyhow : List ℕ → ℕ → ℕ → Type 0
IsNumberAnyhow bytes start end = (o : Options) → Between (IsNumber o) bytes start end

-- the number stands at a place and ends where it was read to, under all options
abbrev pub IsPlainNumber : List ℕ → ℕ → PlainNumber → Type 0
IsPlainNumber bytes start n = (o : Options) → Between (IsScanned o (lexeme (number (chars n.text.now)))) bytes start n.end

-- a string without a backslash stands from one place to another, under all options: it means what stands between its quotes
pub record IsPlainString (bytes : List ℕ) (start end : ℕ) : Type 0 where
  pub stands : (o : Options) → Between (IsScanned o (lexeme (string (chars (slice_range bytes (start + 1) (end - 1)))))) bytes start end
  pub plain : HoldsBackslash bytes start end → ⊥

-- `Infinity` or `NaN` after a sign, under all options that allow them
abbrev pub IsSignedName : List ℕ → ℕ → ℕ → Type 0
IsSignedName bytes start end = (o : Options) → IsTrue o.non_finite_numbers → Between (Unsigned o true) bytes start end

-- neither `Infinity` nor `NaN` stands at a place as a number
abbrev pub NoName : Options → List ℕ → ℕ → Type 0
NoName o bytes start = IsTrue o.non_finite_numbers → NoneFrom (IsWhole (codes "Infinity")) bytes start × NoneFrom (IsWhole (codes "NaN")) bytes start

-- no number without its sign stands at a place
abbrev pub NoUnsigned : Options → List ℕ → ℕ → Type 0
NoUnsigned o bytes start = (signed : Bool) → NoneFrom (Unsigned o signed) bytes start

-- neither `Infinity` nor `NaN` stands at a place and ends there
abbrev pub NoNames : List ℕ → ℕ → Type 0
NoNames bytes start = NoneFrom (IsAlone (codes "Infinity")) bytes start × NoneFrom (IsAlone (codes "NaN")) bytes start

-- an `I` or an `N` stands at a place
abbrev pub HasName : List ℕ → ℕ → Type 0
HasName bytes start = IsTrue (starts (λ c. c == 0x49 || c == 0x4E) (next (rest bytes start)))

-- no word stands at a place
abbrev pub NoWord : Options → List ℕ → ℕ → Type 0
NoWord o bytes start = (s : List ℕ) → NoneFrom (IsLexeme o (word s)) bytes start

-- this is the punctuation character c
abbrev pub IsMark : ℕ → Mark → Type 0
IsMark c mark = IsTrue (is_punctuation c) × (mark_of mark ≡ lexeme (punctuation c))

-- it stands at a place
abbrev pub IsMarkAt : List ℕ → ℕ → Mark → Type 0
IsMarkAt bytes start mark = (c : ℕ) × IsMark c mark × Steps bytes start c (start + 1)

-- no fraction stands at a place, and none is missing there
abbrev pub NoFraction : Options → List ℕ → ℕ → Type 0
NoFraction o bytes start = NoneFrom (Fraction o) bytes start

-- a number after its sign, and none
abbrev pub IsAfterSign : Options → List ℕ → ℕ → ℕ → Type 0
IsAfterSign o bytes start end = Between (Unsigned o true) bytes start end

abbrev pub NoneAfterSign : Options → List ℕ → ℕ → Type 0
NoneAfterSign o bytes start = NoneFrom (Unsigned o true) bytes start

-- `0x` stands at a place
abbrev pub HasHexadecimalMark : List ℕ → ℕ → Type 0
HasHexadecimalMark bytes start = Steps bytes start 0x30 (start + 1) × HasAt is_x bytes (start + 1)

-- where a `0` stands no `x` follows
abbrev pub LacksHexadecimalMark : List ℕ → ℕ → Type 0
LacksHexadecimalMark bytes start = Steps bytes start 0x30 (start + 1) → LacksAt is_x bytes (start + 1)

-- no number without its sign stands at a place, unless a name does
abbrev pub NoFinite : Options → List ℕ → ℕ → Type 0
NoFinite o bytes start = NoNames bytes start → NoUnsigned o bytes start

-- no number stands at a place, unless a name does
abbrev pub NoNumber : Options → List ℕ → ℕ → Type 0
NoNumber o bytes start = NoNames bytes start → NoneFrom (IsNumber o) bytes start

-- t begins with a digit or a sign, or with a point before a digit: with these begins a number that is no name
abbrev pub begins_number : List ℕ → Bool
begins_number [] = false
begins_number (c ∷ t) = is_digit c || c == 0x2B || c == 0x2D || (c == 0x2E && starts is_digit (next t))

-- neither a word nor a number that is a name stands at a place
abbrev pub NoNameOrWord : Options → List ℕ → ℕ → Type 0
NoNameOrWord o bytes start = NoName o bytes start × NoWord o bytes start

-- no lexeme and no comment stands at a place
abbrev pub NothingAt : Options → List ℕ → ℕ → Type 0
NothingAt o bytes start = (what : Scanned) → NoneFrom (IsScanned o what) bytes start

-- the string that was passed stands at a place and ends where it was read to; where no backslash is in it, it is what stands between its quotes
pub record IsStringPassed (o : Options) (bytes : List ℕ) (start : ℕ) (passed : PassedString) : Type 0 where
  pub stands : Between (IsScanned o (lexeme (string (string_value bytes start passed.end)))) bytes start passed.end
  pub escaped : passed.escaped ≡ true ↔ HoldsBackslash bytes start passed.end
  pub plain : passed.escaped ≡ false → string_value bytes start passed.end ≡ chars (slice_range bytes (start + 1) (passed.end - 1))
  pub inside : Spans bytes (start + 1) (passed.end - 1)

module _ {A : Type 0} where
  -- the string stands at a place and ends where it was read to; it is lent by the text exactly where no backslash is in it
  pub record IsStringRead (o : Options) (bytes : List ℕ) (start : ℕ) (read : Decoded A) : Type 0 where
    pub stands : Between (IsScanned o (lexeme (string (chars (cow_str_bytes read.string))))) bytes start read.end
    pub lent : IsLentUnescaped bytes start read.end read.string
    pub escaped : IsOwnedStr read.string → StringHoldsBackslash bytes start

  -- the same, under all options
  abbrev pub IsStringAnyhow : List ℕ → ℕ → Decoded A → Type 0
  IsStringAnyhow bytes start read = (o : Options) → IsStringRead o bytes start read
