-- A number ends at one place.
use Rattle.std.proofs.Common.{ℕ, ◌≡◌, sym, Bool, true, not, refl, List, ◌∷◌, Option, Some, None, IsTrue, arith}
use Rattle.std.specs.Int.{is_in_range}
use Rattle.jsonc_text.specs.Options.{Options}
use Rattle.jsonc_text.specs.Text.{next, no, starts, AllOf, all_of, is_digit}
use Rattle.jsonc_text.specs.Numbers.{Sign, Whole, Fraction, Exponent, Unsigned, Number, is_x, is_e, is_sign}
use Rattle.jsonc_text.proofs.Basics.{clash}
use Rattle.jsonc_text.proofs.UniqueGaps.{many_unique, all_unique, all_starts}

pub whole_unique : {t u v : List ℕ} → Whole t u → Whole t v → u ≡ v
whole_unique (Whole.zero a) (Whole.zero b) = refl
whole_unique (Whole.zero a) (Whole.digits h g b) = absurd (clash true h refl)
whole_unique (Whole.digits h g b) (Whole.zero a) = absurd (clash true h refl)
whole_unique (Whole.digits h g a) (Whole.digits i j b) = many_unique g j a b

pub all_no : {p : ℕ → Bool} {t r : List ℕ} → AllOf p t r → IsTrue (no p (next t)) → ⊥
all_no {p} (all_of {c} h g a) n = clash (p c) n h

pub fraction_unique : {o : Options} {t u v : List ℕ} → Fraction o t u → Fraction o t v → u ≡ v
fraction_unique (Fraction.none a) (Fraction.none b) = refl
fraction_unique (Fraction.none a) (Fraction.point g) = absurd (clash true a refl)
fraction_unique (Fraction.none a) (Fraction.bare_point p b) = absurd (clash true a refl)
fraction_unique (Fraction.point g) (Fraction.none a) = absurd (clash true a refl)
fraction_unique (Fraction.point g) (Fraction.point h) = all_unique g h
fraction_unique (Fraction.point g) (Fraction.bare_point p b) = absurd (all_no g b)
fraction_unique (Fraction.bare_point p b) (Fraction.none a) = absurd (clash true a refl)
fraction_unique (Fraction.bare_point p b) (Fraction.point g) = absurd (all_no g b)
fraction_unique (Fraction.bare_point p a) (Fraction.bare_point q b) = refl

sign_no_digit : (x : ℕ) → IsTrue (is_digit x) → IsTrue (is_sign x) → ⊥
sign_no_digit x a b = grind arith

pub exponent_unique : {t u v : List ℕ} → Exponent t u → Exponent t v → u ≡ v
exponent_unique (Exponent.none a) (Exponent.none b) = refl
exponent_unique (Exponent.none a) (Exponent.digits {e = e} h g) = absurd (clash (is_e e) a h)
exponent_unique (Exponent.none a) (Exponent.signed {e = e} h k g) = absurd (clash (is_e e) a h)
exponent_unique (Exponent.digits {e = e} h g) (Exponent.none a) = absurd (clash (is_e e) a h)
exponent_unique (Exponent.digits h g) (Exponent.digits i j) = all_unique g j
exponent_unique (Exponent.digits h g) (Exponent.signed {s = x} i l j) = absurd (sign_no_digit x (all_starts g) l)
exponent_unique (Exponent.signed {e = e} h k g) (Exponent.none a) = absurd (clash (is_e e) a h)
exponent_unique (Exponent.signed {s = x} i l j) (Exponent.digits h g) = absurd (sign_no_digit x (all_starts g) l)
exponent_unique (Exponent.signed h k g) (Exponent.signed i l j) = all_unique g j

-- a whole part begins with a digit
pub whole_begins : {t u : List ℕ} → Whole t u → IsTrue (starts is_digit (next t))
whole_begins (Whole.zero a) = refl
whole_begins (Whole.digits {c = c} h g a) = digit c h
  where
    digit : (c : ℕ) → IsTrue (is_in_range 0x31 0x39 c) → IsTrue (is_digit c)
    digit c h = grind arith

-- a hexadecimal number is no decimal one
pub hex_no_decimal : {x : ℕ} {t u : List ℕ} → IsTrue (is_x x) → Whole (0x30 ∷ x ∷ t) u → ⊥
hex_no_decimal {x} q (Whole.zero a) = clash (is_x x) a q
hex_no_decimal q (Whole.digits h g a) = clash true h refl

decimal_unique : {o : Options} {t u v w x r s : List ℕ} → Whole t u → Fraction o u v → Exponent v r → Whole t w → Fraction o w x → Exponent x s → r ≡ s
decimal_unique a b c d e f =
    let p = whole_unique a d in
    let q = fraction_unique b (rw (sym p) at e) in
    exponent_unique c (rw (sym q) at f)

bare_unique : {t u v r s : List ℕ} → AllOf is_digit t u → Exponent u r → AllOf is_digit t v → Exponent v s → r ≡ s
bare_unique a b c d = exponent_unique b (rw (sym (all_unique a c)) at d)

-- the number after its sign
pub unsigned_unique : {o : Options} {a : Bool} {t r s : List ℕ} → Unsigned o a t r → Unsigned o a t s → r ≡ s
unsigned_unique (Unsigned.hex p q g) (Unsigned.hex x y z) = all_unique g z
unsigned_unique (Unsigned.hex p q g) (Unsigned.decimal d e z) = absurd (hex_no_decimal q d)
unsigned_unique (Unsigned.decimal d e z) (Unsigned.hex p q g) = absurd (hex_no_decimal q d)
unsigned_unique (Unsigned.decimal d e z) (Unsigned.decimal p q g) = decimal_unique d e z p q g
unsigned_unique (Unsigned.decimal d e z) (Unsigned.bare_point b x y) = absurd (clash true (whole_begins d) refl)
unsigned_unique (Unsigned.decimal d e z) (Unsigned.infinity b n) = absurd (clash true (whole_begins d) refl)
unsigned_unique (Unsigned.decimal d e z) (Unsigned.nan b n) = absurd (clash true (whole_begins d) refl)
unsigned_unique (Unsigned.bare_point b x y) (Unsigned.decimal d e z) = absurd (clash true (whole_begins d) refl)
unsigned_unique (Unsigned.bare_point b x y) (Unsigned.bare_point p q g) = bare_unique x y q g
unsigned_unique (Unsigned.infinity b n) (Unsigned.decimal d e z) = absurd (clash true (whole_begins d) refl)
unsigned_unique (Unsigned.infinity b n) (Unsigned.infinity c m) = refl
unsigned_unique (Unsigned.nan b n) (Unsigned.decimal d e z) = absurd (clash true (whole_begins d) refl)
unsigned_unique (Unsigned.nan b n) (Unsigned.nan c m) = refl

-- what stands after a sign begins with no sign
pub unsigned_begins : {o : Options} {a : Bool} {t r : List ℕ} → Unsigned o a t r → IsTrue (starts (λ c. not (is_sign c)) (next t))
unsigned_begins (Unsigned.hex p q g) = refl
unsigned_begins {t = t} (Unsigned.decimal d e z) = digit (next t) (whole_begins d)
  where
    digit : (n : Option ℕ) → IsTrue (starts is_digit n) → IsTrue (starts (λ c. not (is_sign c)) n)
    digit None h = h
    digit (Some c) h = grind arith
unsigned_begins (Unsigned.bare_point b x y) = refl
unsigned_begins (Unsigned.infinity b n) = refl
unsigned_begins (Unsigned.nan b n) = refl

pub number_unique : {o : Options} {t r s : List ℕ} → Number o t r → Number o t s → r ≡ s
number_unique (a, t, x, g) (b, u, y, h) = signs x y g h
  where
    signs : {o : Options} {a b : Bool} {t u v r s : List ℕ} → Sign o a t u → Sign o b t v → Unsigned o a u r → Unsigned o b v s → r ≡ s
    signs Sign.none Sign.none g h = unsigned_unique g h
    signs Sign.none Sign.minus g h = absurd (clash true (unsigned_begins g) refl)
    signs Sign.none (Sign.plus p) g h = absurd (clash true (unsigned_begins g) refl)
    signs Sign.minus Sign.none g h = absurd (clash true (unsigned_begins h) refl)
    signs Sign.minus Sign.minus g h = unsigned_unique g h
    signs (Sign.plus p) Sign.none g h = absurd (clash true (unsigned_begins h) refl)
    signs (Sign.plus p) (Sign.plus q) g h = unsigned_unique g h
