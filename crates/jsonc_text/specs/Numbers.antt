-- Numbers: those of RFC 8259, 6 and, each under its option, of JSON5, 6. Each part ends where its digits end, and says what may not follow it.
use Rattle.std.specs.Prelude.{ℕ, Bool, true, false, ◌||◌, ◌==◌, Option, List, [], ◌∷◌, ◌++◌, IsTrue, codes}
use Rattle.std.specs.Int.{is_in_range}
use Rattle.jsonc_text.specs.Options.{Options, all_on}
use Rattle.jsonc_text.specs.Text.{next, no, Many, AllOf, is_digit, is_hex_digit}
use Rattle.jsonc_text.specs.Words.{EndsThere, EndsWhole}

-- an optional `-`, or `+` under its option
pub data Sign (o : Options) : Bool → List ℕ → List ℕ → Type 0 where
  none : {r : List ℕ} → Sign o false r r
  minus : {r : List ℕ} → Sign o true (0x2D ∷ r) r
  plus : {r : List ℕ} → IsTrue o.unary_plus_numbers → Sign o true (0x2B ∷ r) r

-- `x` or `X`
abbrev pub is_x : ℕ → Bool
is_x c = c == 0x78 || c == 0x58

-- before the point: `0`, or a digit 1 to 9 and any digits
pub data Whole : List ℕ → List ℕ → Type 0 where
  zero : {r : List ℕ} → IsTrue (no is_x (next r)) → Whole (0x30 ∷ r) r
  digits : {c : ℕ} {t r : List ℕ} → IsTrue (is_in_range 0x31 0x39 c) → Many is_digit t r → IsTrue (no is_digit (next r)) → Whole (c ∷ t) r

abbrev pub is_point : ℕ → Bool
is_point c = c == 0x2E

-- then, or not, a point and digits, at least one unless bare points are allowed
pub data Fraction (o : Options) : List ℕ → List ℕ → Type 0 where
  none : {r : List ℕ} → IsTrue (no is_point (next r)) → Fraction o r r
  point : {t r : List ℕ} → AllOf is_digit t r → Fraction o (0x2E ∷ t) r
  bare_point : {r : List ℕ} → IsTrue o.bare_decimal_points → IsTrue (no is_digit (next r)) → Fraction o (0x2E ∷ r) r

-- `e` or `E`
abbrev pub is_e : ℕ → Bool
is_e c = c == 0x65 || c == 0x45

-- `+` or `-`
abbrev pub is_sign : ℕ → Bool
is_sign c = c == 0x2B || c == 0x2D

-- then, or not, `e` or `E`, an optional sign, and digits, at least one
pub data Exponent : List ℕ → List ℕ → Type 0 where
  none : {r : List ℕ} → IsTrue (no is_e (next r)) → Exponent r r
  digits : {e : ℕ} {t r : List ℕ} → IsTrue (is_e e) → AllOf is_digit t r → Exponent (e ∷ t) r
  signed : {e s : ℕ} {t r : List ℕ} → IsTrue (is_e e) → IsTrue (is_sign s) → AllOf is_digit t r → Exponent (e ∷ s ∷ t) r

-- where `Infinity` and `NaN` end
abbrev pub EndsName : Bool → Option ℕ → Type 0
EndsName true n = EndsThere n
EndsName false n = EndsWhole n

-- after the sign
pub data Unsigned (o : Options) (signed : Bool) : List ℕ → List ℕ → Type 0 where
  hex : {x : ℕ} {t r : List ℕ} → IsTrue o.hexadecimal_numbers → IsTrue (is_x x) → AllOf is_hex_digit t r → Unsigned o signed (0x30 ∷ x ∷ t) r
  decimal : {t u v r : List ℕ} → Whole t u → Fraction o u v → Exponent v r → Unsigned o signed t r
  bare_point : {t u r : List ℕ} → IsTrue o.bare_decimal_points → AllOf is_digit t u → Exponent u r → Unsigned o signed (0x2E ∷ t) r
  infinity : {r : List ℕ} → IsTrue o.non_finite_numbers → EndsName signed (next r) → Unsigned o signed (codes "Infinity" ++ r) r
  nan : {r : List ℕ} → IsTrue o.non_finite_numbers → EndsName signed (next r) → Unsigned o signed (codes "NaN" ++ r) r

-- t is a number, which ends there, and then r
abbrev pub Number : Options → List ℕ → List ℕ → Type 0
Number o t r = (signed : Bool) × (u : List ℕ) × Sign o signed t u × Unsigned o signed u r

-- s is a number, whole
abbrev pub NumberLit : Options → List ℕ → Type 0
NumberLit o s = Number o s []

-- a number of the text s ends before r; no option changes this
abbrev pub MayFollow : List ℕ → List ℕ → Type 0
MayFollow s r = Number all_on (s ++ r) r
