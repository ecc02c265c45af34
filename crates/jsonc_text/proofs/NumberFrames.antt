-- The text of a number is a number by itself, and ends the same before whatever may follow it.
use Rattle.std.proofs.Common.{ℕ, ◌≡◌, ◌∙◌, sym, ap, refl, Bool, true, false, not, List, [], ◌∷◌, ◌++◌, IsTrue, codes}
use Rattle.jsonc_text.specs.Options.{Options, all_on}
use Rattle.jsonc_text.specs.Text.{next, starts, Many, stop, step, AllOf, all_of, is_digit, is_hex_digit}
use Rattle.jsonc_text.specs.Numbers.{Sign, Whole, Fraction, Exponent, Unsigned, Number, NumberLit, MayFollow, EndsName, is_x, is_e, is_sign, is_point}
use Rattle.jsonc_text.proofs.Basics.{clash, no_starts, apart, heads, tails, front_same, no_front, starts_front}
use Rattle.jsonc_text.proofs.UniqueGaps.{all_starts}
use Rattle.jsonc_text.proofs.UniqueNumbers.{whole_unique, whole_begins, hex_no_decimal, unsigned_begins}

-- what stands at the front of t, with less after it: r is taken off
pub record Cut (R : List ℕ → List ℕ → Type 0) (t x r : List ℕ) : Type 0 where
  pub text : List ℕ
  pub split : t ≡ text ++ r
  pub here : R text x

cut_one : {R S : List ℕ → List ℕ → Type 0} {t x r : List ℕ} (c : ℕ) → ((a : List ℕ) → R a x → S (c ∷ a) x) → Cut R t x r → Cut S (c ∷ t) x r
cut_one c f k = record { text = c ∷ k.text; split = ap (λ x. c ∷ x) k.split; here = f k.text k.here }

pub many_cut : {p : ℕ → Bool} {t u : List ℕ} (x r : List ℕ) → Many p t u → u ≡ x ++ r → Cut (Many p) t x r
many_cut x r stop e = record { text = x; split = e; here = stop }
many_cut x r (step {c = c} h g) e = cut_one c (λ a k. step h k) (many_cut x r g e)

all_cut : {p : ℕ → Bool} {t u : List ℕ} (x r : List ℕ) → AllOf p t u → u ≡ x ++ r → Cut (AllOf p) t x r
all_cut {p} x r (all_of {c = c} h g n) e = cut_one c (λ a k. all_of h k (no_front p x r e n)) (many_cut x r g e)

sign_cut : {o : Options} {b : Bool} {t u : List ℕ} (x r : List ℕ) → Sign o b t u → u ≡ x ++ r → Cut (Sign o b) t x r
sign_cut x r Sign.none e = record { text = x; split = e; here = Sign.none }
sign_cut x r Sign.minus e = record { text = 0x2D ∷ x; split = ap (λ y. 0x2D ∷ y) e; here = Sign.minus }
sign_cut x r (Sign.plus p) e = record { text = 0x2B ∷ x; split = ap (λ y. 0x2B ∷ y) e; here = Sign.plus p }

whole_cut : {t u : List ℕ} (x r : List ℕ) → Whole t u → u ≡ x ++ r → Cut Whole t x r
whole_cut x r (Whole.zero n) e = record { text = 0x30 ∷ x; split = ap (λ y. 0x30 ∷ y) e; here = Whole.zero (no_front is_x x r e n) }
whole_cut x r (Whole.digits {c = c} h g n) e = cut_one c (λ a k. Whole.digits h k (no_front is_digit x r e n)) (many_cut x r g e)

fraction_cut : {o : Options} {t u : List ℕ} (x r : List ℕ) → Fraction o t u → u ≡ x ++ r → Cut (Fraction o) t x r
fraction_cut x r (Fraction.none n) e = record { text = x; split = e; here = Fraction.none (no_front is_point x r e n) }
fraction_cut x r (Fraction.point g) e = cut_one 0x2E (λ a k. Fraction.point k) (all_cut x r g e)
fraction_cut x r (Fraction.bare_point p n) e = record { text = 0x2E ∷ x; split = ap (λ y. 0x2E ∷ y) e; here = Fraction.bare_point p (no_front is_digit x r e n) }

exponent_cut : {t u : List ℕ} (x r : List ℕ) → Exponent t u → u ≡ x ++ r → Cut Exponent t x r
exponent_cut x r (Exponent.none n) e = record { text = x; split = e; here = Exponent.none (no_front is_e x r e n) }
exponent_cut x r (Exponent.digits {e = c} h g) e = cut_one c (λ a k. Exponent.digits h k) (all_cut x r g e)
exponent_cut x r (Exponent.signed {e = c} {s = s} h k g) e =
    cut_one {R = λ a b. Exponent (c ∷ a) b} c (λ a y. y) (cut_one s (λ a y. Exponent.signed h k y) (all_cut x r g e))

name_cut : (b : Bool) {u : List ℕ} (x r : List ℕ) → EndsName b (next u) → u ≡ x ++ r → EndsName b (next x)
name_cut true x r n e = no_front _ x r e n
name_cut false x r n e = no_front _ x r e n

-- the whole part and the fraction, with what follows them
cut_then : {R S Q : List ℕ → List ℕ → Type 0} {t u x r : List ℕ} → ((a b : List ℕ) → R a b → S b x → Q a x) → Cut S u x r → ((y : List ℕ) → u ≡ y ++ r → Cut R t y r) → Cut Q t x r
cut_then f k g = let l = g k.text k.split in record { text = l.text; split = l.split; here = f l.text k.text l.here k.here }

unsigned_cut : {o : Options} {b : Bool} {t u : List ℕ} (x r : List ℕ) → Unsigned o b t u → u ≡ x ++ r → Cut (Unsigned o b) t x r
unsigned_cut {o} {b} x r (Unsigned.hex {x = c} p q g) e =
    cut_one {R = λ a y. Unsigned o b (0x30 ∷ a) y} 0x30 (λ a k. k) (cut_one c (λ a k. Unsigned.hex p q k) (all_cut x r g e))
unsigned_cut {o} {b} x r (Unsigned.decimal w f z) e =
    let k = exponent_cut x r z e in
    let l = fraction_cut k.text r f k.split in
    let m = whole_cut l.text r w l.split in
    record { text = m.text; split = m.split; here = Unsigned.decimal m.here l.here k.here }
unsigned_cut {o} {b} x r (Unsigned.bare_point p g z) e =
    let k = exponent_cut x r z e in
    let l = all_cut k.text r g k.split in
    record { text = 0x2E ∷ l.text; split = ap (λ y. 0x2E ∷ y) l.split; here = Unsigned.bare_point p l.here k.here }
unsigned_cut {b = b} x r (Unsigned.infinity p n) e = record { text = codes "Infinity" ++ x; split = ap (λ y. codes "Infinity" ++ y) e; here = Unsigned.infinity p (name_cut b x r n e) }
unsigned_cut {b = b} x r (Unsigned.nan p n) e = record { text = codes "NaN" ++ x; split = ap (λ y. codes "NaN" ++ y) e; here = Unsigned.nan p (name_cut b x r n e) }

pub number_cut : {o : Options} {t u : List ℕ} (x r : List ℕ) → Number o t u → u ≡ x ++ r → Cut (Number o) t x r
number_cut x r (b, u, s, n) e =
    let k = unsigned_cut x r n e in
    let l = sign_cut k.text r s k.split in
    record { text = l.text; split = l.split; here = (b, k.text, l.here, k.here) }

-- a number's text, taken from what follows it, is a number
pub number_whole : {o : Options} (s r : List ℕ) → Number o (s ++ r) r → NumberLit o s
number_whole {o} s r n = let k = number_cut [] r n refl in let e : s ≡ k.text = front_same refl k.split in rw e k.here

pub number_text : {o : Options} {t r : List ℕ} → Number o t r → (s : List ℕ) × (t ≡ s ++ r) × NumberLit o s
number_text {r = r} n = let k = number_cut [] r n refl in (k.text, k.split, k.here)

-- what is a number is one under all options
sign_all : {o : Options} {b : Bool} {t r : List ℕ} → Sign o b t r → Sign all_on b t r
sign_all Sign.none = Sign.none
sign_all Sign.minus = Sign.minus
sign_all (Sign.plus p) = Sign.plus refl

fraction_all : {o : Options} {t r : List ℕ} → Fraction o t r → Fraction all_on t r
fraction_all (Fraction.none n) = Fraction.none n
fraction_all (Fraction.point g) = Fraction.point g
fraction_all (Fraction.bare_point p n) = Fraction.bare_point refl n

unsigned_all : {o : Options} {b : Bool} {t r : List ℕ} → Unsigned o b t r → Unsigned all_on b t r
unsigned_all (Unsigned.hex p q g) = Unsigned.hex refl q g
unsigned_all (Unsigned.decimal w f z) = Unsigned.decimal w (fraction_all f) z
unsigned_all (Unsigned.bare_point p g z) = Unsigned.bare_point refl g z
unsigned_all (Unsigned.infinity p n) = Unsigned.infinity refl n
unsigned_all (Unsigned.nan p n) = Unsigned.nan refl n

pub number_follows : {o : Options} (s r : List ℕ) → Number o (s ++ r) r → MayFollow s r
number_follows s r (b, u, g, n) = (b, u, sign_all g, unsigned_all n)

-- and the other way: what the options allow of the text, and what follows allows under all options
nothing_before : (c : ℕ) (z r : List ℕ) → c ∷ (z ++ r) ≡ r → ⊥
nothing_before c z r e = let k : c ∷ z ≡ [] = front_same refl e in cc

fraction_both : {o : Options} {u v t w : List ℕ} (z r : List ℕ) → Fraction o u v → Fraction all_on t w → t ≡ u ++ r → w ≡ z ++ r → Fraction o t w
fraction_both z r f (Fraction.none n) e g = Fraction.none n
fraction_both z r f (Fraction.point k) e g = Fraction.point k
fraction_both {u = []} z r (Fraction.none m) (Fraction.bare_point p n) e g = absurd (nothing_before 0x2E z r (rw (← g) e))
fraction_both {u = c ∷ u} z r (Fraction.none m) (Fraction.bare_point p n) e g = absurd (clash (is_point c) m (let k : 0x2E ≡ c = heads e in rw (sym k) refl))
fraction_both {w = w} z r (Fraction.point {t = t} k) (Fraction.bare_point p n) e g = absurd (no_starts is_digit (next w) n (starts_front is_digit t r (tails e) (all_starts k)))
fraction_both z r (Fraction.bare_point q m) (Fraction.bare_point p n) e g = Fraction.bare_point q n

decimal_both : {o : Options} {b : Bool} {t u v w x y r : List ℕ} → Whole t u → Fraction o u v → Whole w x → Fraction all_on x y → Exponent y r → w ≡ t ++ r → Unsigned o b w r
decimal_both {t = t} {r = r} a f c g z e =
    let k = exponent_cut [] r z refl in
    let l = fraction_cut k.text r g k.split in
    let m = whole_cut l.text r c l.split in
    let p : m.text ≡ t = front_same refl (sym m.split ∙ e) in
    let q = whole_unique a (rw p at m.here) in
    Unsigned.decimal c (fraction_both k.text r f g (rw q l.split) k.split) z

hex_both_no : {c : ℕ} {y t u r : List ℕ} → IsTrue (is_x c) → AllOf is_hex_digit t r → Whole y u → 0x30 ∷ c ∷ t ≡ y ++ r → ⊥
hex_both_no {c = c} {y = y} {r = r} q g w e =
    let k = all_cut [] r g refl in
    let p : y ≡ 0x30 ∷ c ∷ k.text = front_same refl (sym e ∙ ap (λ x. 0x30 ∷ c ∷ x) k.split) in
    hex_no_decimal q (rw p at w)

digit_front : {y u t : List ℕ} (r : List ℕ) → Whole y u → t ≡ y ++ r → IsTrue (starts is_digit (next t))
digit_front {y = y} r w e = starts_front is_digit y r e (whole_begins w)

whole_front : {t u y : List ℕ} → Whole t u → t ≡ y → IsTrue (starts is_digit (next y))
whole_front w e = rw e at (whole_begins w)

unsigned_both : {o : Options} {b : Bool} {y t r : List ℕ} → Unsigned o b y [] → Unsigned all_on b t r → t ≡ y ++ r → Unsigned o b t r
unsigned_both (Unsigned.hex p q g) (Unsigned.hex x k z) e = Unsigned.hex p k z
unsigned_both (Unsigned.hex p q g) (Unsigned.decimal w f z) e = absurd (hex_no_decimal q (rw e at w))
unsigned_both (Unsigned.hex p q g) (Unsigned.bare_point k w z) e = absurd (apart refl e)
unsigned_both (Unsigned.hex p q g) (Unsigned.infinity k n) e = absurd (apart refl e)
unsigned_both (Unsigned.hex p q g) (Unsigned.nan k n) e = absurd (apart refl e)
unsigned_both (Unsigned.decimal a f c) (Unsigned.hex x k z) e = absurd (hex_both_no k z a e)
unsigned_both (Unsigned.decimal a f c) (Unsigned.decimal w g z) e = decimal_both a f w g z e
unsigned_both (Unsigned.decimal a f c) (Unsigned.bare_point k w z) e = absurd (clash true (digit_front _ a e) refl)
unsigned_both (Unsigned.decimal a f c) (Unsigned.infinity k n) e = absurd (clash true (digit_front _ a e) refl)
unsigned_both (Unsigned.decimal a f c) (Unsigned.nan k n) e = absurd (clash true (digit_front _ a e) refl)
unsigned_both (Unsigned.bare_point p g c) (Unsigned.hex x k z) e = absurd (apart refl e)
unsigned_both (Unsigned.bare_point p g c) (Unsigned.decimal w f z) e = absurd (clash true (whole_front w e) refl)
unsigned_both (Unsigned.bare_point p g c) (Unsigned.bare_point k w z) e = Unsigned.bare_point p w z
unsigned_both (Unsigned.bare_point p g c) (Unsigned.infinity k n) e = absurd (apart refl e)
unsigned_both (Unsigned.bare_point p g c) (Unsigned.nan k n) e = absurd (apart refl e)
unsigned_both (Unsigned.infinity p m) (Unsigned.hex x k z) e = absurd (apart refl e)
unsigned_both (Unsigned.infinity p m) (Unsigned.decimal w f z) e = absurd (clash true (whole_front w e) refl)
unsigned_both (Unsigned.infinity p m) (Unsigned.bare_point k w z) e = absurd (apart refl e)
unsigned_both (Unsigned.infinity p m) (Unsigned.infinity k n) e = Unsigned.infinity p n
unsigned_both (Unsigned.infinity p m) (Unsigned.nan k n) e = absurd (apart refl e)
unsigned_both (Unsigned.nan p m) (Unsigned.hex x k z) e = absurd (apart refl e)
unsigned_both (Unsigned.nan p m) (Unsigned.decimal w f z) e = absurd (clash true (whole_front w e) refl)
unsigned_both (Unsigned.nan p m) (Unsigned.bare_point k w z) e = absurd (apart refl e)
unsigned_both (Unsigned.nan p m) (Unsigned.infinity k n) e = absurd (apart refl e)
unsigned_both (Unsigned.nan p m) (Unsigned.nan k n) e = Unsigned.nan p n

-- no sign at the front of what follows a sign
sign_front : {o : Options} {b : Bool} {y t : List ℕ} (r : List ℕ) → Unsigned o b y [] → t ≡ y ++ r → IsTrue (starts (λ c. not (is_sign c)) (next t))
sign_front {y = y} r n e = starts_front (λ c. not (is_sign c)) y r e (unsigned_begins n)

number_both : {o : Options} {s t r : List ℕ} → NumberLit o s → Number all_on t r → t ≡ s ++ r → Number o t r
number_both (a, u, x, m) (b, v, y, n) e = signs x m y n e
  where
    signs : {o : Options} {a b : Bool} {s u t v r : List ℕ} → Sign o a s u → Unsigned o a u [] → Sign all_on b t v → Unsigned all_on b v r → t ≡ s ++ r → Number o t r
    signs {t = t} Sign.none m Sign.none n e = (false, t, Sign.none, unsigned_both m n e)
    signs Sign.none m Sign.minus n e = absurd (clash true (sign_front _ m e) refl)
    signs Sign.none m (Sign.plus p) n e = absurd (clash true (sign_front _ m e) refl)
    signs Sign.minus m Sign.none n e = absurd (clash true (rw e at (unsigned_begins n)) refl)
    signs Sign.minus m (Sign.minus {r = v}) n e = (true, v, Sign.minus, unsigned_both m n (tails e))
    signs Sign.minus m (Sign.plus p) n e = absurd (apart refl e)
    signs (Sign.plus q) m Sign.none n e = absurd (clash true (rw e at (unsigned_begins n)) refl)
    signs (Sign.plus q) m Sign.minus n e = absurd (apart refl e)
    signs (Sign.plus q) m (Sign.plus {r = v} p) n e = (true, v, Sign.plus q, unsigned_both m n (tails e))

pub number_there : {o : Options} (s r : List ℕ) → NumberLit o s → MayFollow s r → Number o (s ++ r) r
number_there s r n m = number_both n m refl
