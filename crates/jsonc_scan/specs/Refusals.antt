-- How a text is refused.
use Rattle.std.specs.Prelude.{ℕ, ◌+◌, ◌≡◌, ◌≢◌, ◌<◌, true, false, not, List, length, IsTrue}
use Rattle.jsonc_text.specs.declared.errors.ParseError.{ParseError}
use Rattle.jsonc_text.specs.declared.errors.ParseErrorKind.{ParseErrorKind}
use Rattle.jsonc_text.specs.declared.errors.ParseErrorKind.TheVariants.{OutOfMemory, BareDecimalPointNumbersNotAllowed, String}
use Rattle.jsonc_text.specs.declared.string.escape.StringFault.{StringFault}
use Rattle.jsonc_text.specs.Chars.{Steps}
use Rattle.jsonc_text.specs.Faults.{IsFault, kind_of, range_of}
use Rattle.jsonc_text.specs.Gaps.{is_blank}
use Rattle.jsonc_text.specs.Numbers.{Sign}
use Rattle.jsonc_text.specs.Options.{Options}
use Rattle.jsonc_text.specs.Text.{rest, is_digit}
use Rattle.jsonc_text.specs.Words.{Keyword, IsKeyword}
use Rattle.jsonc_text.specs.string.Between.{LacksAt, NoneFrom}
use Rattle.jsonc_scan.specs.Reads.{NoName, NoNames, begins_number}
use Rattle.jsonc_scan.specs.Faults.{IsNext, BreaksExponent, IsTrueOf, begins_digits, begins_other}

-- a fault of the text itself, and no allocation failure
pub record IsTextFault (bytes : List ℕ) (e : ParseError) : Type 0 where
  pub fault : IsFault bytes e
  pub kind : kind_of e ≢ OutOfMemory

-- the fault's kind, and the places that it is told of
pub record IsFaultError (i j : ℕ) (what : ParseErrorKind) (e : ParseError) : Type 0 where
  pub start : (range_of e).start ≡ i
  pub end : (range_of e).end ≡ j
  pub kind : kind_of e ≡ what

-- the fault of a point without a digit after it
abbrev pub IsBarePoint : ℕ → ℕ → ParseError → Type 0
IsBarePoint i j e = IsFaultError i j BareDecimalPointNumbersNotAllowed e

-- the fault is told of the character at a place, or of no bytes at the end of the text
pub record IsFaultOfNext (bytes : List ℕ) (place : ℕ) (e : ParseError) : Type 0 where
  pub start : (range_of e).start ≡ place
  pub character : IsNext (rest bytes place) (rest bytes (range_of e).end)

-- a point without a digit after it stands at a place, where that is not allowed
pub record LacksFraction (o : Options) (bytes : List ℕ) (place : ℕ) : Type 0 where
  pub off : o.bare_decimal_points ≡ false
  pub point : Steps bytes place 0x2E (place + 1)
  pub digits : LacksAt is_digit bytes (place + 1)

-- the exponent at a place breaks off where the fault is told
pub record IsExponentFault (bytes : List ℕ) (start : ℕ) (e : ParseError) : Type 0 where
  pub breaks : BreaksExponent (kind_of e) (rest bytes start) (rest bytes (range_of e).start)
  pub character : IsNext (rest bytes (range_of e).start) (rest bytes (range_of e).end)

-- the sign of a number begins at one place, and what follows it at another; or there is none, and digits begin
pub data PassesSign (o : Options) (bytes : List ℕ) (number start : ℕ) : Type 0 where
  unsigned : number ≡ start → IsTrue (begins_digits (rest bytes start)) → PassesSign o bytes number start
  signed : number < start → Sign o true (rest bytes number) (rest bytes start) → PassesSign o bytes number start

-- a fault of what follows the sign, where no name does
abbrev pub IsNumberFault : Options → List ℕ → ℕ → ℕ → ParseError → Type 0
IsNumberFault o bytes number start e = PassesSign o bytes number start → NoNames bytes start → IsTrueOf o bytes number e

-- a fault of what follows the sign at a place
abbrev pub IsSignedFault : Options → List ℕ → ℕ → ParseError → Type 0
IsSignedFault o bytes sign e = Sign o true (rest bytes sign) (rest bytes (sign + 1)) → IsTrueOf o bytes sign e

-- a fault of what begins as a number
abbrev pub IsFaultOfNumber : Options → List ℕ → ℕ → ParseError → Type 0
IsFaultOfNumber o bytes start e = begins_number (rest bytes start) ≡ true → IsTrueOf o bytes start e

-- the text goes on at a place with what is no blank, and begins no comment, and no lexeme that is no word or name
pub record BeginsNoOther (bytes : List ℕ) (start : ℕ) : Type 0 where
  pub inside : start < length bytes
  pub blank : LacksAt is_blank bytes start
  pub other : IsTrue (not (begins_other (rest bytes start)))
  pub keyword : (k : Keyword) → NoneFrom (IsKeyword k) bytes start

-- a fault of what begins as a word or as nothing, where no name stands as a number
abbrev pub IsFaultOfWord : List ℕ → ℕ → ParseError → Type 0
IsFaultOfWord bytes start e = BeginsNoOther bytes start → (o : Options) → NoName o bytes start → IsTrueOf o bytes start e

-- a fault of what begins as a word, a name or as nothing
abbrev pub IsFaultOfNameOrWord : Options → List ℕ → ℕ → ParseError → Type 0
IsFaultOfNameOrWord o bytes start e = BeginsNoOther bytes start → IsTrueOf o bytes start e

-- a fault of what begins as a comment
abbrev pub IsFaultOfComment : List ℕ → ℕ → ParseError → Type 0
IsFaultOfComment bytes start e = (o : Options) → IsTrueOf o bytes start e

-- a fault of the lexeme at a place before the end, where no blank stands
abbrev pub IsFaultOfLexeme : Options → List ℕ → ℕ → ParseError → Type 0
IsFaultOfLexeme o bytes start e = start < length bytes → LacksAt is_blank bytes start → IsTrueOf o bytes start e

-- a fault of the string at a place, or allocation failure
abbrev pub IsFaultOfString : Options → List ℕ → ℕ → ParseError → Type 0
IsFaultOfString o bytes start e = kind_of e ≢ OutOfMemory → IsTrueOf o bytes start e

-- the fault is that of a string
abbrev pub IsFaultOfStringToken : StringFault → ParseError → Type 0
IsFaultOfStringToken fault e = IsFaultError fault.range.start fault.range.end (String fault.kind) e
