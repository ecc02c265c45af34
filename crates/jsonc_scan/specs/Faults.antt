-- What the kind of a fault says of the text.
-- Throughout, s is the text from the refused lexeme on, t from the start of the fault's range on, and r from its end on.
use Rattle.std.specs.Prelude.{ℕ, ◌≡◌, ◌⊎◌, Bool, true, false, not, ◌==◌, ◌||◌, ◌&&◌, List, [], ◌∷◌, IsTrue, codes}
use Rattle.jsonc_text.specs.declared.errors.ParseError.{ParseError}
use Rattle.jsonc_text.specs.declared.errors.ParseErrorKind.{ParseErrorKind}
use Rattle.jsonc_text.specs.declared.errors.ParseStringErrorKind.{ParseStringErrorKind}
use Rattle.jsonc_text.specs.declared.errors.ParseErrorKind.TheVariants.{BareDecimalPointNumbersNotAllowed, ExpectedDigit, ExpectedDigitFollowingNegativeSign, ExpectedPlusMinusOrDigitInNumberLiteral, HexadecimalNumbersNotAllowed, NonFiniteNumbersNotAllowed, SingleQuotedStringsNotAllowed, String, UnaryPlusNumbersNotAllowed, UnexpectedToken, UnterminatedCommentBlock}
use Rattle.jsonc_text.specs.Faults.{kind_of, range_of}
use Rattle.jsonc_text.specs.Gaps.{is_blank, UpToBlockEnd}
use Rattle.jsonc_text.specs.Lexemes.{is_punctuation}
use Rattle.jsonc_text.specs.Numbers.{Sign, Whole, Fraction, Number, is_x, is_e, is_sign}
use Rattle.jsonc_text.specs.Options.{Options}
use Rattle.jsonc_text.specs.Strings.{IsQuote}
use Rattle.jsonc_text.specs.Text.{rest, next, no, starts, Many, AllOf, is_digit, is_hex_digit}
use Rattle.jsonc_text.specs.Words.{begins_word, is_in_word, EndsWord, Keyword, IsKeyword}
use Rattle.jsonc_text.specs.string.Faults.{StringFaultAt as TellsOfString}
use Rattle.jsonc_scan.specs.Between.{IsAlone}
use Rattle.jsonc_scan.specs.Reads.{begins_number}

-- t is the next character, or nothing at the end of the text, and then r
pub data IsNext : List ℕ → List ℕ → Type 0 where
  next_one : {c : ℕ} {r : List ℕ} → IsNext (c ∷ r) r
  at_end : IsNext [] []

-- t begins with a digit, or with a point before a digit
abbrev pub begins_digits : List ℕ → Bool
begins_digits [] = false
begins_digits (c ∷ t) = is_digit c || (c == 0x2E && starts is_digit (next t))

-- t is `Infinity` or `NaN`, which ends there as a keyword does, and then r
abbrev pub IsName : List ℕ → List ℕ → Type 0
IsName t r = IsAlone (codes "Infinity") t r ⊎ IsAlone (codes "NaN") t r

-- after a sign no number goes on: neither digits begin t nor a name
pub record GoesOnNoNumber (t : List ℕ) : Type 0 where
  pub digits : IsTrue (not (begins_digits t))
  pub name : (r : List ℕ) → IsName t r → ⊥

-- t is the digits of a decimal number, up to its exponent, and then r
pub data Mantissa (o : Options) : List ℕ → List ℕ → Type 0 where
  mantissa : {t u r : List ℕ} → Whole t u → Fraction o u r → Mantissa o t r
  bare_mantissa : {t r : List ℕ} → IsTrue o.bare_decimal_points → AllOf is_digit t r → Mantissa o (0x2E ∷ t) r

-- t is what is told of a number with a bare point, and then r: of `.5` the point, of `-.5` the sign, `5.` and `-5.` whole
pub data BarePoint (o : Options) : List ℕ → List ℕ → Type 0 where
  leading : {r : List ℕ} → IsTrue (starts is_digit (next r)) → BarePoint o (0x2E ∷ r) r
  signed_leading : {t r : List ℕ} → Sign o true t (0x2E ∷ r) → IsTrue (starts is_digit (next r)) → BarePoint o t (0x2E ∷ r)
  trailing : {signed : Bool} {t u r : List ℕ} → Sign o signed t u → Whole u (0x2E ∷ r) → IsTrue (no is_digit (next r)) → BarePoint o t r

-- u is an exponent that breaks off before t, with the kind that is told then: after `e` and a sign, or after `e`
pub data BreaksExponent : ParseErrorKind → List ℕ → List ℕ → Type 0 where
  after_sign : {e c : ℕ} {t : List ℕ} → IsTrue (is_e e) → IsTrue (is_sign c) → IsTrue (no is_digit (next t)) → BreaksExponent ExpectedDigit (e ∷ c ∷ t) t
  after_e : {e : ℕ} {t : List ℕ} → IsTrue (is_e e) → IsTrue (no (λ c. is_sign c || is_digit c) (next t))
      → BreaksExponent ExpectedPlusMinusOrDigitInNumberLiteral (e ∷ t) t

-- t is all the characters of a word, which neither a keyword nor a number begins, and then r, before which no word may end
pub record BreaksWord (o : Options) (t r : List ℕ) : Type 0 where
  pub begins : IsTrue (starts begins_word (next t))
  pub goes_on : Many is_in_word t r
  pub all : IsTrue (no is_in_word (next r))
  pub no_end : EndsWord (next r) → ⊥
  pub no_keyword : (k : Keyword) (u : List ℕ) → IsKeyword k t u → ⊥
  pub no_number : (u : List ℕ) → Number o t u → ⊥

-- t begins as punctuation, a string, a number that is no name, or a comment
abbrev pub begins_other : List ℕ → Bool
begins_other [] = false
begins_other (c ∷ t) = is_punctuation c || c == 0x22 || c == 0x27 || begins_number (c ∷ t) || (c == 0x2F && starts (λ d. d == 0x2F || d == 0x2A) (next t))

-- the lexeme at the front of s is refused with this kind, which is told of what stands from t to r
pub data LexemeFault (o : Options) : ParseErrorKind → List ℕ → List ℕ → List ℕ → Type 0 where
  bare_point : {t r : List ℕ} → o.bare_decimal_points ≡ false → BarePoint o t r → LexemeFault o BareDecimalPointNumbersNotAllowed t t r
  -- after a sign
  lone_sign : {s t r : List ℕ} → Sign o true s t → GoesOnNoNumber t → IsNext t r → LexemeFault o ExpectedDigitFollowingNegativeSign s t r
  -- after `0x`
  hex_digits : {signed : Bool} {x : ℕ} {s t r : List ℕ} → IsTrue o.hexadecimal_numbers → Sign o signed s (0x30 ∷ x ∷ t)
      → IsTrue (is_x x) → IsTrue (no is_hex_digit (next t)) → IsNext t r → LexemeFault o ExpectedDigit s t r
  -- in an exponent
  exponent : {kind : ParseErrorKind} {signed : Bool} {s m u t r : List ℕ} → Sign o signed s m → Mantissa o m u
      → BreaksExponent kind u t → IsNext t r → LexemeFault o kind s t r
  -- a sign, if any, and the `0` of `0x`
  hexadecimal : {signed : Bool} {t r : List ℕ} → o.hexadecimal_numbers ≡ false → Sign o signed t (0x30 ∷ r)
      → IsTrue (starts is_x (next r)) → LexemeFault o HexadecimalNumbersNotAllowed t t r
  -- a sign and a name
  non_finite : {t u r : List ℕ} → o.non_finite_numbers ≡ false → Sign o true t u → IsName u r → LexemeFault o NonFiniteNumbersNotAllowed t t r
  unary_plus : {r : List ℕ} → o.unary_plus_numbers ≡ false → LexemeFault o UnaryPlusNumbersNotAllowed (0x2B ∷ r) (0x2B ∷ r) r
  single_quote : {r : List ℕ} → o.single_quoted_strings ≡ false → LexemeFault o SingleQuotedStringsNotAllowed (0x27 ∷ r) (0x27 ∷ r) r
  broken_word : {t r : List ℕ} → BreaksWord o t r → LexemeFault o UnexpectedToken t t r
  -- one character, no blank, with which nothing begins
  lone_character : {c : ℕ} {r : List ℕ} → IsTrue (not (is_blank c)) → IsTrue (not (begins_word c))
      → IsTrue (not (begins_other (c ∷ r))) → LexemeFault o UnexpectedToken (c ∷ r) (c ∷ r) r
  -- `/*` and all that follows, where no `*/` begins after it
  open_block : {t : List ℕ} → ((r : List ℕ) → UpToBlockEnd t r → ⊥) → LexemeFault o UnterminatedCommentBlock (0x2F ∷ 0x2A ∷ t) (0x2F ∷ 0x2A ∷ t) []
  -- the fault of a string
  string_fault : {q : ℕ} {kind : ParseStringErrorKind} {s t r : List ℕ} → IsQuote o q
      → TellsOfString o.extended_escapes q kind s t r → LexemeFault o (String kind) s t r

-- what the fault's kind says of its range is true of the lexeme at a place
abbrev pub IsTrueOf : Options → List ℕ → ℕ → ParseError → Type 0
IsTrueOf o bytes start e = LexemeFault o (kind_of e) (rest bytes start) (rest bytes (range_of e).start) (rest bytes (range_of e).end)
