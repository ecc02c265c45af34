-- A number is written as one of JSON, of the same value.
use Rattle.std.proofs.Common.{ℕ, ◌≡◌, ◌+◌, ◌*◌, ◌^◌, ◌<◌, sym, ap, refl, subst, Bool, true, false, List, [], ◌∷◌, ◌++◌, append-nil, length, length-append, IsTrue, arith, inl, inr, ◌⊎◌}
use Rattle.std.proofs.lemmas.Bool.{cases_lt}
use Rattle.std.proofs.lemmas.Str.Parse.{digit_from_value}
use Rattle.std.specs.Char.{digit_value}
use Rattle.std.specs.Int.{is_in_range}
use Rattle.std.specs.Str.Parse.{AllDigits, IsNumeral, digits_value}
use Rattle.jsonc_text.specs.Text.{Many, is_digit, step, stop}
use Rattle.jsonc_parser.specs.Numbers.{Decimal, Exponent, Fraction, Hexadecimal, Sign, Unsigned, Whole}
use Rattle.jsonc_parser.specs.patch.Numbers.{SameNumber, a_number, fraction}
use Rattle.jsonc_engine.specs.Json as rfc
use Rattle.jsonc_engine.specs.Rewritten.{IsNumberFor, IsUnsignedFor, minus_of, or_zero, with_point}

-- its text
small_digit : (c : ℕ) → digit_value c < 10 → IsTrue (is_digit c)
small_digit c h = let r = digit_from_value c h in grind arith

many_digits : (ds r : List ℕ) → AllDigits 10 ds → Many is_digit (ds ++ r) r
many_digits [] r h = stop
many_digits (d ∷ ds) r h = step (small_digit d h.0) (many_digits ds r h.1)

some_digits : (c : ℕ) (ds r : List ℕ) → AllDigits 10 (c ∷ ds) → rfc.Digits (c ∷ (ds ++ r)) r
some_digits c ds r h = rfc.Digits.digits (small_digit c h.0) (many_digits ds r h.1)

above_zero : (c : ℕ) → digit_value c < 10 → 0x30 < c → IsTrue (is_in_range 0x31 0x39 c)
above_zero c h l = let r = digit_from_value c h in grind arith

zero_or_more : (c : ℕ) → digit_value c < 10 → (c ≡ 0x30) ⊎ (0x30 < c)
zero_or_more c h = let r = digit_from_value c h in elim (cases_lt 0x30 c) [ inl l ↦ inr l | inr l ↦ inl (omega arith) ]

int_json : (w r : List ℕ) → Whole w → rfc.Int (or_zero w ++ r) r
int_json [] r h = rfc.Int.zero
int_json (c ∷ w) r h = go w (zero_or_more c h.digits.0) h
  where
    go : (w : List ℕ) → (c ≡ 0x30) ⊎ (0x30 < c) → Whole (c ∷ w) → rfc.Int (c ∷ (w ++ r)) r
    go w (inr l) h = rfc.Int.digits (above_zero c h.digits.0 l) (many_digits w r h.digits.1)
    go [] (inl e) h = subst (λ c. rfc.Int (c ∷ r) r) (sym e) rfc.Int.zero
    go (d ∷ w) (inl e) h = absurd (omega (arith, h.lone_zero e))

frac_json : (f r : List ℕ) → AllDigits 10 f → rfc.Frac (with_point f ++ r) r
frac_json [] r h = rfc.Frac.none
frac_json (c ∷ f) r h = rfc.Frac.frac (some_digits c f r h)

to_the_end : (ds : List ℕ) → IsNumeral 10 ds → rfc.Digits ds []
to_the_end [] n = absurd (omega (arith, n.0))
to_the_end (c ∷ ds) n = subst (λ t. rfc.Digits (c ∷ t) []) (append-nil ds) (some_digits c ds [] n.1)

exp_json : {x : List ℕ} {up down : ℕ} → Exponent x up down → rfc.Exp x []
exp_json Exponent.none = rfc.Exp.none
exp_json (Exponent.digits {ds = ds} e n) = rfc.Exp.exp e (to_the_end ds n)
exp_json (Exponent.plus {ds = ds} e n) = rfc.Exp.signed e refl (to_the_end ds n)
exp_json (Exponent.minus {ds = ds} e n) = rfc.Exp.signed e refl (to_the_end ds n)

fraction_digits : {p f : List ℕ} → Fraction p f → AllDigits 10 f
fraction_digits Fraction.none = tt
fraction_digits (Fraction.point h) = h

minus_json : (b : Bool) (u : List ℕ) → rfc.Minus (minus_of b ++ u) u
minus_json true u = rfc.Minus.minus
minus_json false u = rfc.Minus.none

unsigned_json : (b : Bool) {u w : List ℕ} → IsUnsignedFor u w → rfc.Number (minus_of b ++ w) []
unsigned_json b (IsUnsignedFor.decimal {w = w} {f = f} {x = x} h k e some) =
    rfc.Number.number (minus_json b (or_zero w ++ (with_point f ++ x))) (int_json w (with_point f ++ x) h) (frac_json f x (fraction_digits k)) (exp_json e)
unsigned_json b (IsUnsignedFor.hexadecimal {row = []} is n h some e) = absurd (omega (arith, some))
unsigned_json b (IsUnsignedFor.hexadecimal {row = c ∷ row} is n h some e) =
    rfc.Number.number (minus_json b (c ∷ row)) (subst (λ t. rfc.Int t []) (ap (λ t. c ∷ t) (append-nil row)) (int_json (c ∷ row) [] h)) rfc.Frac.none rfc.Exp.none

pub number_json : {s w : List ℕ} → IsNumberFor s w → rfc.Number w []
number_json (IsNumberFor.number {negative = b} sign h) = unsigned_json b h

-- its value
whole_or_zero : (w : List ℕ) → Whole w → Whole (or_zero w)
whole_or_zero [] h = record { digits = (omega arith, tt); lone_zero = λ e. refl }
whole_or_zero (c ∷ w) h = h

fraction_with_point : (f : List ℕ) → AllDigits 10 f → Fraction (with_point f) f
fraction_with_point [] h = Fraction.none
fraction_with_point (c ∷ f) h = Fraction.point h

some_or_zero : (w f : List ℕ) → 0 < length (or_zero w ++ f)
some_or_zero [] f = omega arith
some_or_zero (c ∷ w) f = omega arith

same_digits : (w f : List ℕ) → digits_value 10 (or_zero w ++ f) ≡ digits_value 10 (w ++ f)
same_digits [] f = refl
same_digits (c ∷ w) f = refl

sign_of : (b : Bool) (u : List ℕ) → Sign (minus_of b ++ u) b u
sign_of true u = Sign.minus
sign_of false u = Sign.none

row_decimal : (row : List ℕ) → Whole row → 0 < length row → Decimal row (digits_value 10 row * 1) 1
row_decimal row h some =
    subst (λ r. Decimal r (digits_value 10 r * 1) 1) (append-nil row)
    (Decimal.decimal {w = row} {p = []} {f = []} {x = []} h Fraction.none Exponent.none (omega (arith, some, length-append row [])))

unsigned_same : {s u w : List ℕ} (b : Bool) → Sign s b u → IsUnsignedFor u w → SameNumber s (minus_of b ++ w)
unsigned_same b sign (IsUnsignedFor.decimal {w = w} {p = p} {f = f} {x = x} {up = up} {down = down} h k e some) =
    let y = or_zero w ++ (with_point f ++ x) in
    let d = 10 ^ (length f + down) in
    let digits = fraction_digits k in
    inr (
      fraction b (digits_value 10 (w ++ f) * 10 ^ up) d,
      fraction b (digits_value 10 (or_zero w ++ f) * 10 ^ up) d,
      a_number sign (Unsigned.decimal (Decimal.decimal h k e some)),
      a_number (sign_of b y) (Unsigned.decimal (Decimal.decimal (whole_or_zero w h) (fraction_with_point f digits) e (some_or_zero w f))),
      (ap (λ n. n * 10 ^ up * d) (sym (same_digits w f)), inl refl),
    )
unsigned_same b sign (IsUnsignedFor.hexadecimal {ds = ds} {row = row} is n h some e) =
    inr (
      fraction b (digits_value 16 ds) 1,
      fraction b (digits_value 10 row * 1) 1,
      a_number sign (Unsigned.hexadecimal (Hexadecimal.hexadecimal is n)),
      a_number (sign_of b row) (Unsigned.decimal (row_decimal row h some)),
      (omega (arith, e), inl refl),
    )

pub number_same : {s w : List ℕ} → IsNumberFor s w → SameNumber s w
number_same (IsNumberFor.number {negative = b} sign h) = unsigned_same b sign h
