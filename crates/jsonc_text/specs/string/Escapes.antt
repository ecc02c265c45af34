-- Escapes, and strings in their quotes, by the places where they stand.
use Rattle.std.specs.Prelude.{ℕ, ◌+◌, ◌≡◌, ◌≢◌, ◌≤◌, ◌<◌, ◌↔◌, Bool, true, false, List, [], ◌∷◌, ◌++◌, Option, Some, None, IsCharBoundary, IsTrue, slice_range, ◌-◌}
use Rattle.std.specs.declared.borrow.CowStr.{CowStr}
use Rattle.std.specs.Cow.{cow_str_bytes, IsBorrowedStr, IsOwnedStr}
use Rattle.jsonc_text.specs.declared.string.escape.Escape.{Escape}
use Rattle.jsonc_text.specs.declared.string.escape.Meaning.{Meaning as Read}
use Rattle.jsonc_text.specs.declared.string.escape.Meaning.TheVariants as read
use Rattle.jsonc_text.specs.declared.string.escape.StringFault.{StringFault}
use Rattle.jsonc_text.specs.declared.errors.ParseStringErrorKind.TheVariants.{OutOfMemory}
use Rattle.jsonc_text.specs.Options.{Options, all_on}
use Rattle.std.specs.Char.{digit_value}
use Rattle.jsonc_text.specs.Text.{Many, Spans, is_hex_digit}
use Rattle.jsonc_text.specs.Chars.{Steps}
use Rattle.jsonc_text.specs.Strings.{IsQuote, Meaning, gives, extended, code_unit, code_byte, nul, line_end, carriage_return, refused, AreHex4, hex4, Piece, Pieces, Decodes}
use Rattle.jsonc_text.specs.string.Between.{Between, NoneFrom, Reaches, is_neither}

-- strings look at one option alone: whether the extended escapes are taken
abbrev pub escapes : Bool → Options
escapes taken = record all_on { extended_escapes = taken }

-- what a backslash was read to mean
abbrev pub meaning_of : Read → Meaning
meaning_of (read.Gives c) = gives c
meaning_of (read.Extended c) = extended c
meaning_of read.CodeUnit = code_unit
meaning_of read.CodeByte = code_byte
meaning_of read.Nul = nul
meaning_of read.LineEnd = line_end
meaning_of read.CarriageReturn = carriage_return
meaning_of read.Refused = refused

-- an escape of JSON, which is taken always
abbrev pub is_plain : Meaning → Bool
is_plain (gives c) = true
is_plain code_unit = true
is_plain _ = false

-- t is `\u` and four hex digits that write the number n, and then r
pub data IsUnit (n : ℕ) : List ℕ → List ℕ → Type 0 where
  unit_of : {a b c d : ℕ} {r : List ℕ} → AreHex4 a b c d → n ≡ hex4 a b c d → IsUnit n (0x5C ∷ 0x75 ∷ a ∷ b ∷ c ∷ d ∷ r) r

-- a hex digit that writes this number stands at a place
pub record HasHexDigit (bytes : List ℕ) (place value : ℕ) : Type 0 where
  pub digit : ℕ
  pub is_hex : IsTrue (is_hex_digit digit)
  pub here : Steps bytes place digit (place + 1)
  pub writes : value ≡ digit_value digit

-- t is one piece between quotes q that stands for the characters p, and then r
abbrev pub IsPiece : Bool → ℕ → List ℕ → List ℕ → List ℕ → Type 0
IsPiece taken q p t r = Piece (escapes taken) q t p r

-- no piece stands at a place
abbrev pub NoPiece : Bool → ℕ → List ℕ → ℕ → Type 0
NoPiece taken q bytes place = (p : List ℕ) → NoneFrom (IsPiece taken q p) bytes place

-- the character that an escape stands for, if any
abbrev pub given : Option ℕ → List ℕ
given None = []
given (Some c) = c ∷ []

-- this escape stands at a place
abbrev pub IsEscape : Bool → ℕ → List ℕ → ℕ → Escape → Type 0
IsEscape taken q bytes place e = Between (IsPiece taken q (given e.character)) bytes place e.end

-- whichever quotes enclose it, and whether extended escapes are taken or not
abbrev pub IsEscapeAnyhow : List ℕ → ℕ → Escape → Type 0
IsEscapeAnyhow bytes place e = (taken : Bool) (q : ℕ) → IsEscape taken q bytes place e

abbrev pub NoPieceAnyhow : List ℕ → ℕ → Type 0
NoPieceAnyhow bytes place = (taken : Bool) (q : ℕ) → NoPiece taken q bytes place

-- a fault of the text of a string that begins at a place, and no allocation failure
pub record IsStringFault (bytes : List ℕ) (start : ℕ) (fault : StringFault) : Type 0 where
  pub spans : Spans bytes fault.range.start fault.range.end
  pub order : start ≤ fault.range.start
  pub kind : fault.kind ≢ OutOfMemory

-- t is pieces between quotes q that stand for the string v, and then r
abbrev pub ArePieces : Bool → ℕ → List ℕ → List ℕ → List ℕ → Type 0
ArePieces taken q v t r = Pieces (escapes taken) q t v r

-- t is a string in the quotes q that stands for v, and then r
abbrev pub IsQuoted : Bool → ℕ → List ℕ → List ℕ → List ℕ → Type 0
IsQuoted taken q v t r = (s : List ℕ) × (t ≡ (q ∷ s) ++ q ∷ r) × Decodes (escapes taken) q s v

-- no string in the quotes q stands at a place
abbrev pub NoQuoted : Bool → ℕ → List ℕ → ℕ → Type 0
NoQuoted taken q bytes place = (v : List ℕ) → NoneFrom (IsQuoted taken q v) bytes place

-- a backslash stands after one place and before another
pub record HoldsBackslash (bytes : List ℕ) (start end : ℕ) : Type 0 where
  pub place : ℕ
  pub boundary : IsCharBoundary bytes place
  pub after : start < place
  pub before : place < end
  pub backslash : Steps bytes place 0x5C (place + 1)

-- in the string that begins at a place stands a backslash: after its opening quote, and before the next such quote
pub record StringHoldsBackslash (bytes : List ℕ) (start : ℕ) : Type 0 where
  pub quote : ℕ
  pub place : ℕ
  pub allowed : IsQuote all_on quote
  pub opens : Steps bytes start quote (start + 1)
  pub inside : Reaches (Many (is_neither quote 0x5C)) bytes (start + 1) place
  pub backslash : Steps bytes place 0x5C (place + 1)

-- a fault of a string that begins at a place, or allocation failure for it
pub record IsStringRefusal (bytes : List ℕ) (start : ℕ) (fault : StringFault) : Type 0 where
  pub spans : Spans bytes fault.range.start fault.range.end
  pub order : start ≤ fault.range.start

module _ {A : Type 0} where
  -- the string that stands from one place to another is copied exactly where a backslash is in it; else it is what stands between its quotes, lent by the text
  pub record IsLentUnescaped (bytes : List ℕ) (start end : ℕ) (s : CowStr A) : Type 0 where
    pub copied : IsOwnedStr s ↔ HoldsBackslash bytes start end
    pub slice : IsBorrowedStr s → cow_str_bytes s ≡ slice_range bytes (start + 1) (end - 1)
