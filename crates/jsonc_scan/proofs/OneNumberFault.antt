-- A number is refused in one way.
use Rattle.std.proofs.Common.{inl, inr, ℕ, ◌≡◌, ◌∙◌, sym, refl, Bool, true, false, not, List, [], ◌∷◌, Some, IsTrue, arith, ◌==◌, ◌||◌, ◌&&◌, codes}
use Rattle.std.proofs.lemmas.List.{append_cancel_left}
use Rattle.jsonc_text.specs.declared.errors.ParseErrorKind.{ParseErrorKind}
use Rattle.jsonc_text.specs.declared.errors.ParseErrorKind.TheVariants as kind
use Rattle.std.specs.Int.{is_in_range}
use Rattle.jsonc_text.specs.Numbers.{Sign, Whole, Fraction, Exponent, Unsigned, Number, is_x, is_sign}
use Rattle.jsonc_text.specs.Options.{Options}
use Rattle.jsonc_text.specs.Text.{next, no, starts, AllOf, is_digit, is_hex_digit}
use Rattle.jsonc_scan.specs.Faults as t
use Rattle.jsonc_scan.specs.Faults.{IsNext, IsName, LexemeFault, BarePoint, Mantissa, BreaksExponent, BreaksWord, GoesOnNoNumber, begins_digits, begins_other}
use Rattle.jsonc_text.proofs.Basics.{clash, tails, apart, no_starts, or_left}
use Rattle.jsonc_text.proofs.UniqueGaps.{all_unique, all_starts}
use Rattle.jsonc_text.proofs.UniqueNumbers.{whole_unique, whole_begins, fraction_unique, all_no, unsigned_begins}
use Rattle.jsonc_scan.proofs.NumberFaults.{no_left, broken}

-- one kind, of one range
abbrev pub Same : ParseErrorKind → ParseErrorKind → List ℕ → List ℕ → List ℕ → List ℕ → Type 0
Same k l t u r v = (k ≡ l) × (t ≡ u) × (r ≡ v)

both_ways : {b : Bool} → IsTrue b → b ≡ false → ⊥
both_ways p f = let e : true ≡ false = sym p ∙ f in cc

next_unique : {t r v : List ℕ} → IsNext t r → IsNext t v → r ≡ v
next_unique t.next_one t.next_one = refl
next_unique t.at_end t.at_end = refl

next_same : {t u r v : List ℕ} → t ≡ u → IsNext t r → IsNext u v → r ≡ v
next_same e n m = next_unique n (rw (sym e) at m)

-- an exponent breaks off in one way
breaks_unique : {k l : ParseErrorKind} {m t u : List ℕ} → BreaksExponent k m t → BreaksExponent l m u → (k ≡ l) × (t ≡ u)
breaks_unique (t.after_sign p q n) (t.after_sign x y z) = (refl, refl)
breaks_unique (t.after_sign {c = c} p q n) (t.after_e x y) = absurd (clash (is_sign c) (no_left is_sign is_digit (Some c) y) q)
breaks_unique (t.after_e x y) (t.after_sign {c = c} p q n) = absurd (clash (is_sign c) (no_left is_sign is_digit (Some c) y) q)
breaks_unique (t.after_e p n) (t.after_e x y) = (refl, refl)

exponent_same : {k l : ParseErrorKind} {m n t u r v : List ℕ} → m ≡ n → BreaksExponent k m t → BreaksExponent l n u → IsNext t r → IsNext u v → Same k l t u r v
exponent_same e b c x y =
    let p = breaks_unique b (rw (sym e) at c) in (p.0, p.1, next_same p.1 x y)

name_unique : {m r v : List ℕ} → IsName m r → IsName m v → r ≡ v
name_unique {r = r} {v = v} (inl x) (inl y) = append_cancel_left (codes "Infinity") r v (sym x.0 ∙ y.0)
name_unique {r = r} {v = v} (inr x) (inr y) = append_cancel_left (codes "NaN") r v (sym x.0 ∙ y.0)
name_unique (inl x) (inr y) = absurd (apart refl (sym x.0 ∙ y.0))
name_unique (inr x) (inl y) = absurd (apart refl (sym x.0 ∙ y.0))

-- what a number goes on with after its sign
pub data Form : Type 0 where
  point : Form
  mark : Form
  digits : Form
  neither : Form

-- a fault of a number, by what stands after its sign
pub data OfNumber (o : Options) (s m : List ℕ) : Bool → Form → ParseErrorKind → List ℕ → List ℕ → Type 0 where
  leading : {r : List ℕ} → o.bare_decimal_points ≡ false → m ≡ 0x2E ∷ r → OfNumber o s m false point kind.BareDecimalPointNumbersNotAllowed s r
  signed_leading : o.bare_decimal_points ≡ false → OfNumber o s m true point kind.BareDecimalPointNumbersNotAllowed s m
  bare_exponent : {b : Bool} {k : ParseErrorKind} {w u t r : List ℕ} → IsTrue o.bare_decimal_points → m ≡ 0x2E ∷ w → AllOf is_digit w u → BreaksExponent k u t → IsNext t r → OfNumber o s m b point k t r
  hex_digits : {b : Bool} {x : ℕ} {t r : List ℕ} → IsTrue o.hexadecimal_numbers → m ≡ 0x30 ∷ x ∷ t → IsTrue (no is_hex_digit (next t)) → IsNext t r → OfNumber o s m b mark kind.ExpectedDigit t r
  hexadecimal : {b : Bool} {r : List ℕ} → o.hexadecimal_numbers ≡ false → m ≡ 0x30 ∷ r → OfNumber o s m b mark kind.HexadecimalNumbersNotAllowed s r
  trailing : {b : Bool} {r : List ℕ} → o.bare_decimal_points ≡ false → Whole m (0x2E ∷ r) → IsTrue (no is_digit (next r)) → OfNumber o s m b digits kind.BareDecimalPointNumbersNotAllowed s r
  exponent : {b : Bool} {k : ParseErrorKind} {w u t r : List ℕ} → Whole m w → Fraction o w u → BreaksExponent k u t → IsNext t r → OfNumber o s m b digits k t r
  lone_sign : {r : List ℕ} → GoesOnNoNumber m → IsNext m r → OfNumber o s m true neither kind.ExpectedDigitFollowingNegativeSign m r
  name : {r : List ℕ} → o.non_finite_numbers ≡ false → IsName m r → OfNumber o s m true neither kind.NonFiniteNumbersNotAllowed s r

no_fraction_there : {o : Options} {r u : List ℕ} → o.bare_decimal_points ≡ false → IsTrue (no is_digit (next r)) → Fraction o (0x2E ∷ r) u → ⊥
no_fraction_there f n (Fraction.none a) = clash true a refl
no_fraction_there f n (Fraction.point g) = all_no g n
no_fraction_there f n (Fraction.bare_point p a) = both_ways p f

of_number_unique : {o : Options} {s m : List ℕ} {b : Bool} {f : Form} {k l : ParseErrorKind} {t u r v : List ℕ} → OfNumber o s m b f k t r → OfNumber o s m b f l u v → Same k l t u r v
of_number_unique (leading f e) (leading g h) = (refl, refl, tails (sym e ∙ h))
of_number_unique (leading f e) (bare_exponent a h d b n) = absurd (both_ways a f)
of_number_unique (signed_leading f) (signed_leading g) = (refl, refl, refl)
of_number_unique (signed_leading f) (bare_exponent a h d b n) = absurd (both_ways a f)
of_number_unique (bare_exponent a h d b n) (leading f e) = absurd (both_ways a f)
of_number_unique (bare_exponent a h d b n) (signed_leading f) = absurd (both_ways a f)
of_number_unique (bare_exponent a h d b n) (bare_exponent p e g c x) = exponent_same (all_unique d (rw (tails (sym e ∙ h)) at g)) b c n x
of_number_unique (hex_digits a e z n) (hex_digits b h y m) = let same = tails (tails (sym e ∙ h)) in (refl, same, next_same same n m)
of_number_unique (hex_digits a e z n) (hexadecimal f h) = absurd (both_ways a f)
of_number_unique (hexadecimal f h) (hex_digits a e z n) = absurd (both_ways a f)
of_number_unique (hexadecimal f h) (hexadecimal g e) = (refl, refl, tails (sym h ∙ e))
of_number_unique (trailing f w n) (trailing g x m) = (refl, refl, tails (whole_unique w x))
of_number_unique (trailing f w n) (exponent x d b c) = absurd (no_fraction_there f n (rw (whole_unique x w) at d))
of_number_unique (exponent x d b c) (trailing f w n) = absurd (no_fraction_there f n (rw (whole_unique x w) at d))
of_number_unique (exponent x d b c) (exponent w e g h) = exponent_same (fraction_unique d (rw (whole_unique w x) at e)) b g c h
of_number_unique (lone_sign g n) (lone_sign h m) = (refl, refl, next_unique n m)
of_number_unique (lone_sign g n) (name {r = r} f h) = absurd (g.name r h)
of_number_unique (name {r = r} f h) (lone_sign g n) = absurd (g.name r h)
of_number_unique (name e g) (name f h) = (refl, refl, name_unique g h)

-- how a number goes on, by its first characters: `0x`, a digit, a point before a digit, or none of these
abbrev pub form : (zero : Bool) (x : Bool) (digit : Bool) (bare : Bool) → Form
form true true d b = mark
form true false d b = digits
form false x true b = digits
form false x false true = point
form false x false false = neither

abbrev pub form_of : List ℕ → Form
form_of [] = neither
form_of (c ∷ m) = form (c == 0x30) (starts is_x (next m)) (is_digit c) (c == 0x2E && starts is_digit (next m))

-- a number that is refused, with its sign
pub data NumberTells (o : Options) (s : List ℕ) : ParseErrorKind → List ℕ → List ℕ → Type 0 where
  after : {b : Bool} {m : List ℕ} {k : ParseErrorKind} {t r : List ℕ} → Sign o b s m → (b ≡ false → IsTrue (begins_digits m)) → OfNumber o s m b (form_of m) k t r → NumberTells o s k t r

pub never : IsTrue false → ⊥
never h = cc

sign_unique : {o : Options} {b d : Bool} {s m n : List ℕ} → Sign o b s m → Sign o d s n → (b ≡ false → IsTrue (begins_digits m)) → (d ≡ false → IsTrue (begins_digits n)) → (b ≡ d) × (m ≡ n)
sign_unique Sign.none Sign.none f g = (refl, refl)
sign_unique Sign.none Sign.minus f g = absurd (never (f refl))
sign_unique Sign.none (Sign.plus p) f g = absurd (never (f refl))
sign_unique Sign.minus Sign.none f g = absurd (never (g refl))
sign_unique Sign.minus Sign.minus f g = (refl, refl)
sign_unique (Sign.plus p) Sign.none f g = absurd (never (g refl))
sign_unique (Sign.plus p) (Sign.plus q) f g = (refl, refl)

pub number_tells_one : {o : Options} {s : List ℕ} {k l : ParseErrorKind} {t u r v : List ℕ} → NumberTells o s k t r → NumberTells o s l u v → Same k l t u r v
number_tells_one (after a f x) (after b g y) = go (sign_unique a b f g) x y
  where
    go : {o : Options} {s m n : List ℕ} {b d : Bool} {k l : ParseErrorKind} {t u r v : List ℕ} → (b ≡ d) × (m ≡ n) → OfNumber o s m b (form_of m) k t r → OfNumber o s n d (form_of n) l u v → Same k l t u r v
    go e x y = of_number_unique x (rw (sym e.0, sym e.1) at y)

made : {o : Options} {b : Bool} {f : Form} {k : ParseErrorKind} {s m t r : List ℕ} → Sign o b s m → (b ≡ false → IsTrue (begins_digits m)) → form_of m ≡ f → OfNumber o s m b f k t r → NumberTells o s k t r
made a g e x = after a g (rw e x)

pub false_of : (b : Bool) → (IsTrue b → ⊥) → b ≡ false
false_of true f = absurd (f refl)
false_of false f = refl

point_form : (u : List ℕ) → IsTrue (starts is_digit (next u)) → form_of (0x2E ∷ u) ≡ point
point_form u h = rw h refl

mark_form : (c : ℕ) (u : List ℕ) → IsTrue (is_x c) → form_of (0x30 ∷ c ∷ u) ≡ mark
mark_form c u h = rw h refl

pub digits_begin : (m : List ℕ) → IsTrue (starts is_digit (next m)) → IsTrue (begins_digits m)
digits_begin [] h = absurd (never h)
digits_begin (c ∷ m) h = or_left (is_digit c) (c == 0x2E && starts is_digit (next m)) h

digit_form : (z x d b : Bool) → x ≡ false → IsTrue d → form z x d b ≡ digits
digit_form true x d b e h = rw e refl
digit_form false x d b e h = rw h refl

whole_form : {m u : List ℕ} → Whole m u → form_of m ≡ digits
whole_form (Whole.zero {r = r} a) =
    digit_form true (starts is_x (next r)) true false (false_of (starts is_x (next r)) (λ h. no_starts is_x (next r) a h)) refl
whole_form (Whole.digits {c = c} {t = t} h g a) = nonzero c (starts is_x (next t)) (c == 0x2E && starts is_digit (next t)) h
  where
    nonzero : (c : ℕ) (x b : Bool) → IsTrue (is_in_range 0x31 0x39 c) → form (c == 0x30) x (is_digit c) b ≡ digits
    nonzero c x b h =
        let z : (c == 0x30) ≡ false = false_of (c == 0x30) (λ e. absurd (grind arith)) in
        let d : is_digit c ≡ true = grind arith in
        rw (z, d) refl

no_form : (m : List ℕ) → IsTrue (not (begins_digits m)) → form_of m ≡ neither
no_form [] h = refl
no_form (c ∷ m) h = go (c == 0x30) (starts is_x (next m)) (is_digit c) (c == 0x2E && starts is_digit (next m)) (zero_digit c) h
  where
    zero_digit : (c : ℕ) → IsTrue (c == 0x30) → IsTrue (is_digit c)
    zero_digit c e = grind arith

    go : (z x d b : Bool) → (IsTrue z → IsTrue d) → IsTrue (not (d || b)) → form z x d b ≡ neither
    go z x true b f h = cc
    go z x false true f h = cc
    go true x false false f h = absurd (never (f refl))
    go false x false false f h = refl

name_form : {m r : List ℕ} → IsName m r → form_of m ≡ neither
name_form (inl x) = rw x.0 refl
name_form (inr x) = rw x.0 refl

pub point_tells : {o : Options} {t r : List ℕ} → o.bare_decimal_points ≡ false → BarePoint o t r → NumberTells o t kind.BareDecimalPointNumbersNotAllowed t r
point_tells f (t.leading {r = r} h) = made Sign.none (λ e. h) (point_form r h) (leading f refl)
point_tells f (t.signed_leading {r = r} s h) = made s (λ e. h) (point_form r h) (signed_leading f)
point_tells f (t.trailing {u = m} s w n) = made s (λ e. digits_begin m (whole_begins w)) (whole_form w) (trailing f w n)

pub exponent_tells : {o : Options} {b : Bool} {k : ParseErrorKind} {s m u t r : List ℕ} → Sign o b s m → Mantissa o m u → BreaksExponent k u t → IsNext t r → NumberTells o s k t r
exponent_tells {m = m} s (t.mantissa w f) b n = made s (λ e. digits_begin m (whole_begins w)) (whole_form w) (exponent w f b n)
exponent_tells s (t.bare_mantissa {t = w} a d) b n = made s (λ e. all_starts d) (point_form w (all_starts d)) (bare_exponent a refl d b n)

zero_mark_form : (r : List ℕ) → IsTrue (starts is_x (next r)) → form_of (0x30 ∷ r) ≡ mark
zero_mark_form r h = rw h refl

of_true : (m : List ℕ) → true ≡ false → IsTrue (begins_digits m)
of_true m e = cc

pub sign_tells : {o : Options} {s m r : List ℕ} → Sign o true s m → GoesOnNoNumber m → IsNext m r → NumberTells o s kind.ExpectedDigitFollowingNegativeSign m r
sign_tells {m = m} s g n = made s (of_true m) (no_form m g.digits) (lone_sign g n)

pub hex_digits_tells : {o : Options} {b : Bool} {c : ℕ} {s t r : List ℕ} → IsTrue o.hexadecimal_numbers → Sign o b s (0x30 ∷ c ∷ t) → IsTrue (is_x c) → IsTrue (no is_hex_digit (next t)) → IsNext t r → NumberTells o s kind.ExpectedDigit t r
hex_digits_tells {c = c} {t = u} a s h z n = made s (λ e. refl) (mark_form c u h) (hex_digits a refl z n)

pub hexadecimal_tells : {o : Options} {b : Bool} {s r : List ℕ} → o.hexadecimal_numbers ≡ false → Sign o b s (0x30 ∷ r) → IsTrue (starts is_x (next r)) → NumberTells o s kind.HexadecimalNumbersNotAllowed s r
hexadecimal_tells {r = r} f s h = made s (λ e. refl) (zero_mark_form r h) (hexadecimal f refl)

pub name_tells : {o : Options} {s m r : List ℕ} → o.non_finite_numbers ≡ false → Sign o true s m → IsName m r → NumberTells o s kind.NonFiniteNumbersNotAllowed s r
name_tells {m = m} f s n = made s (of_true m) (name_form n) (name f n)

-- where a fault of a number is told, no number stands
mark_no_number : {o : Options} {s u v t r : List ℕ} {b : Bool} {c : ℕ} {k : ParseErrorKind} → OfNumber o s (0x30 ∷ c ∷ u) b mark k t r → IsTrue o.hexadecimal_numbers → AllOf is_hex_digit u v → ⊥
mark_no_number (hex_digits a e z n) p g = all_no g (rw (sym (tails (tails e))) at z)
mark_no_number (hexadecimal f e) p g = both_ways p f

digits_no_number : {o : Options} {s m w v u t r : List ℕ} {b : Bool} {k : ParseErrorKind} → OfNumber o s m b digits k t r → Whole m w → Fraction o w v → Exponent v u → ⊥
digits_no_number (trailing f w n) x d e = no_fraction_there f n (rw (whole_unique x w) at d)
digits_no_number (exponent w f b n) x d e = broken b (rw (sym (fraction_unique f (rw (sym (whole_unique w x)) at d))) at e)

point_no_number : {o : Options} {s w v u t r : List ℕ} {b : Bool} {k : ParseErrorKind} → OfNumber o s (0x2E ∷ w) b point k t r → IsTrue o.bare_decimal_points → AllOf is_digit w v → Exponent v u → ⊥
point_no_number (leading f e) a d x = both_ways a f
point_no_number (signed_leading f) a d x = both_ways a f
point_no_number (bare_exponent p e g c n) a d x = broken c (rw (sym (all_unique g (rw (tails e) at d))) at x)

neither_no_number : {o : Options} {s m u t r : List ℕ} {k : ParseErrorKind} → OfNumber o s m true neither k t r → IsTrue o.non_finite_numbers → IsName m u → ⊥
neither_no_number {u = u} (lone_sign g n) a x = g.name u x
neither_no_number (name f y) a x = both_ways a f

of_number_no_number : {o : Options} {s m u t r : List ℕ} {b : Bool} {k : ParseErrorKind} → OfNumber o s m b (form_of m) k t r → (b ≡ false → IsTrue (begins_digits m)) → Unsigned o b m u → ⊥
of_number_no_number x f (Unsigned.hex {x = c} {t = m} p q g) = mark_no_number (rw (mark_form c m q) at x) p g
of_number_no_number x f (Unsigned.decimal w d e) = digits_no_number (rw (whole_form w) at x) w d e
of_number_no_number x f (Unsigned.bare_point {t = m} p g e) = point_no_number (rw (point_form m (all_starts g)) at x) p g e
of_number_no_number {b = true} x f (Unsigned.infinity p n) = neither_no_number x p (inl (refl, n))
of_number_no_number {b = false} x f (Unsigned.infinity p n) = never (f refl)
of_number_no_number {b = true} x f (Unsigned.nan p n) = neither_no_number x p (inr (refl, n))
of_number_no_number {b = false} x f (Unsigned.nan p n) = never (f refl)

pub no_number_told : {o : Options} {s u t r : List ℕ} {k : ParseErrorKind} → NumberTells o s k t r → Number o s u → ⊥
no_number_told (after a f x) (d, n, c, g) = go a f x c g
  where
    go : {o : Options} {s m n u t r : List ℕ} {b d : Bool} {k : ParseErrorKind} → Sign o b s m → (b ≡ false → IsTrue (begins_digits m)) → OfNumber o s m b (form_of m) k t r → Sign o d s n → Unsigned o d n u → ⊥
    go Sign.none f x Sign.none g = of_number_no_number x f g
    go Sign.none f x Sign.minus g = never (f refl)
    go Sign.none f x (Sign.plus p) g = never (f refl)
    go Sign.minus f x Sign.none g = clash true (unsigned_begins g) refl
    go Sign.minus f x Sign.minus g = of_number_no_number x f g
    go (Sign.plus p) f x Sign.none g = clash true (unsigned_begins g) refl
    go (Sign.plus p) f x (Sign.plus q) g = of_number_no_number x f g
