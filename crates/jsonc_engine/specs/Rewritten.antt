-- What is written of a document as JSON: lexeme by lexeme, the blanks between them, and no comment.
use Rattle.std.specs.Prelude.{ℕ, ◌≡◌, ◌<◌, length, ◌⊎◌, ◌||◌, ◌==◌, Bool, true, false, List, [], ◌∷◌, ◌++◌, codes, Option, Some, None, IsTrue, if◌then◌else◌}
use Rattle.std.specs.Str.Parse.{IsNumeral, digits_value}
use Rattle.jsonc_text.specs.Gaps.{Gap, IsComment, is_blank}
use Rattle.jsonc_text.specs.Lexemes.{Lexeme, LexemeKind}
use Rattle.jsonc_text.specs.Numbers.{is_x}
use Rattle.jsonc_text.specs.Options.{all_on}
use Rattle.jsonc_text.specs.Spelling.{spelled}
use Rattle.jsonc_text.specs.Text.{next, no}
use Rattle.jsonc_parser.specs.Numbers.{Exponent, Fraction, Sign, Whole}
use Rattle.jsonc_engine.specs.Json.{Quoted, is_ws}

-- a blank of JSON stays, and any other becomes a space
abbrev pub written_blank : ℕ → ℕ
written_blank c = if is_ws c then c else 0x20

-- n is the first character behind the gap at the front of t, or there is none
pub record ComesNext (t : List ℕ) (n : Option ℕ) : Type 0 where
  pub behind : List ℕ
  pub gap : Gap all_on t behind
  pub no_blank : IsTrue (no is_blank (next behind))
  pub no_comment : (r : List ℕ) → IsComment behind r → ⊥
  pub is : n ≡ next behind

-- `:` comes next, and what stands before it is a name
abbrev pub is_named : Option ℕ → Bool
is_named None = false
is_named (Some c) = c == 0x3A

-- a closing bracket comes next
abbrev pub is_closed : Option ℕ → Bool
is_closed None = false
is_closed (Some c) = c == 0x5D || c == 0x7D

-- what is written behind a literal or a closing bracket: the comma that is missing where an entry comes next
abbrev pub missing_comma : Option ℕ → List ℕ
missing_comma None = []
missing_comma (Some c) = if c == 0x2C || c == 0x3A || c == 0x5D || c == 0x7D then [] else 0x2C ∷ []

-- a string of JSON stays, and any other is spelled anew
abbrev pub IsStringFor : List ℕ → List ℕ → List ℕ → Type 0
IsStringFor s v w = (Quoted s v [] × (w ≡ s)) ⊎ ((Quoted s v [] → ⊥) × (w ≡ spelled v))

-- a minus, or nothing
abbrev pub minus_of : Bool → List ℕ
minus_of true = 0x2D ∷ []
minus_of false = []

-- a zero where there are no digits
abbrev pub or_zero : List ℕ → List ℕ
or_zero [] = 0x30 ∷ []
or_zero (c ∷ w) = c ∷ w

-- a point before digits, where there are some
abbrev pub with_point : List ℕ → List ℕ
with_point [] = []
with_point (c ∷ f) = 0x2E ∷ c ∷ f

-- a number with no sign is written with a digit on both sides of its point, and hexadecimal digits in decimal, with no zero ahead
pub data IsUnsignedFor : List ℕ → List ℕ → Type 0 where
  decimal : {w p f x : List ℕ} {up down : ℕ} → Whole w → Fraction p f → Exponent x up down → 0 < length (w ++ f)
      → IsUnsignedFor (w ++ (p ++ x)) (or_zero w ++ (with_point f ++ x))
  hexadecimal : {x : ℕ} {ds row : List ℕ} → IsTrue (is_x x) → IsNumeral 16 ds → Whole row → 0 < length row
      → digits_value 10 row ≡ digits_value 16 ds → IsUnsignedFor (0x30 ∷ x ∷ ds) row

-- and a sign only where it is a minus
pub data IsNumberFor : List ℕ → List ℕ → Type 0 where
  number : {s u w : List ℕ} {negative : Bool} → Sign s negative u → IsUnsignedFor u w → IsNumberFor s (minus_of negative ++ w)

-- `Infinity` or `NaN`, perhaps with a sign, which JSON has not
abbrev pub IsNonFinite : List ℕ → Type 0
IsNonFinite s = (negative : Bool) × (u : List ℕ) × Sign s negative u × ((u ≡ codes "Infinity") ⊎ (u ≡ codes "NaN"))

-- what is written for a literal s of this kind, as a name or as a value
abbrev pub IsLiteralFor : LexemeKind → Bool → List ℕ → List ℕ → Type 0
IsLiteralFor (LexemeKind.string v) named s w = IsStringFor s v w
IsLiteralFor (LexemeKind.number x) false s w = IsNumberFor s w
IsLiteralFor (LexemeKind.keyword k) false s w = w ≡ s
IsLiteralFor kind named s w = w ≡ spelled s

-- for punctuation: a comma before a closing bracket goes
abbrev pub mark_for : ℕ → Option ℕ → List ℕ
mark_for c n =
    if c == 0x2C then (if is_closed n then [] else c ∷ [])
    else (if c == 0x5D || c == 0x7D then c ∷ missing_comma n
    else c ∷ [])

-- with the comma that is missing behind it before n
abbrev pub IsEntryFor : LexemeKind → List ℕ → Option ℕ → List ℕ → Type 0
IsEntryFor kind s n w = (x : List ℕ) × IsLiteralFor kind (is_named n) s x × (w ≡ x ++ missing_comma n)

-- for a lexeme s before n
abbrev pub IsWrittenFor : LexemeKind → List ℕ → Option ℕ → List ℕ → Type 0
IsWrittenFor (LexemeKind.punctuation c) s n w = w ≡ mark_for c n
IsWrittenFor kind s n w = IsEntryFor kind s n w

-- from t to r stand lexemes, blanks and comments, and w is what is written for them, which is nothing for a comment
pub data Rewritten (r : List ℕ) : List ℕ → List ℕ → Type 0 where
  no_more : Rewritten r r []
  blank : {c : ℕ} {t w : List ℕ} → IsTrue (is_blank c) → Rewritten r t w → Rewritten r (c ∷ t) (written_blank c ∷ w)
  comment : {t u w : List ℕ} → IsComment t u → Rewritten r u w → Rewritten r t w
  one : (k : LexemeKind) (s x : List ℕ) (n : Option ℕ) {t u w : List ℕ} → Lexeme all_on k t u → t ≡ s ++ u → ComesNext u n
      → IsWrittenFor k s n x → Rewritten r u w → Rewritten r t (x ++ w)
