-- The texts that write a float are the numbers of the grammar, and each writes one.
use Rattle.std.proofs.Common.{◌≡◌, ℕ, ◌+◌, ◌*◌, ◌<◌, ◌≤◌, Bool, true, false, true≢false, not, ◌||◌, None, List, [], ◌∷◌, ◌++◌, length, get_or, IsTrue, codes, ℤ, refl, sym, ap, ap₂, subst, ◌∙◌, ◌⊎◌, inl, inr, arith, append-nil, length-append}
use Rattle.std.specs.Char.{digit_value}
use Rattle.std.specs.Int.{is_in_range}
use Rattle.std.specs.Float.Ieee.{Float, binary64, round, inf, nan as not_a_number}
use Rattle.std.specs.Float.Numeral.{scan_numeral}
use Rattle.std.specs.Str.Parse.{AllDigits, IsNumeral, digits_value}
use Rattle.std.proofs.lemmas.Bool.{cases_lt}
use Rattle.std.proofs.lemmas.Str.Parse.{digit_from_value}
use Rattle.fast_float.specs.Text.{with_sign}
use Rattle.jsonc_text.specs.Options.{all_on}
use Rattle.jsonc_text.specs.Text.{next, no, Many, AllOf, is_digit, is_hex_digit}
use Rattle.jsonc_text.specs.Numbers.{NumberLit, is_x, is_e, is_sign, is_point, EndsName}
use Rattle.jsonc_text.specs.Numbers as grammar
use Rattle.jsonc_text.proofs.Basics.{or_cases}
use Rattle.jsonc_parser.proofs.NumberSigns.{sign_minus, sign_plus, unsigned_first, integer_parts}
use Rattle.jsonc_parser.proofs.NumberTexts.{decimal_parts, decimal_no_hex, hex_value}
use Rattle.jsonc_parser.proofs.NumberValues.{cancel, ten_to_pos}
use Rattle.jsonc_parser.specs.Numbers.{Sign, Whole, Fraction, Exponent, Decimal, Hexadecimal, Unsigned, WritesWhole, WritesInteger, WritesFloat}

small_digit : (c : ℕ) → IsTrue (is_digit c) → digit_value c < 10
small_digit c h = grind arith

small_hex_digit : (c : ℕ) → IsTrue (is_hex_digit c) → digit_value c < 16
small_hex_digit c h =
    elim (or_cases (is_in_range 48 57 c || is_in_range 65 70 c) (is_in_range 97 102 c) h) [
      | inl k ↦ elim (or_cases (is_in_range 48 57 c) (is_in_range 65 70 c) k) [ inl l ↦ decimal c l | inr l ↦ upper c l ]
      | inr k ↦ lower c k
    ]
  where
    decimal : (c : ℕ) → IsTrue (is_in_range 48 57 c) → digit_value c < 16
    decimal c h = grind arith

    upper : (c : ℕ) → IsTrue (is_in_range 65 70 c) → digit_value c < 16
    upper c h = grind arith

    lower : (c : ℕ) → IsTrue (is_in_range 97 102 c) → digit_value c < 16
    lower c h = grind arith

digit_small : (c : ℕ) → digit_value c < 10 → IsTrue (is_digit c)
digit_small c h = let r = digit_from_value c h in grind arith

hex_digit_small : (c : ℕ) → digit_value c < 16 → IsTrue (is_hex_digit c)
hex_digit_small c h = grind arith

-- a run of digits
record Run (radix : ℕ) (t r : List ℕ) : Type 0 where
  ds : List ℕ
  digits : AllDigits radix ds
  is : t ≡ ds ++ r

run : {p : ℕ → Bool} {t r : List ℕ} (radix : ℕ) → ((c : ℕ) → IsTrue (p c) → digit_value c < radix) → Many p t r → Run radix t r
run radix small Many.stop = record { ds = []; digits = tt; is = refl }
run radix small (Many.step {c = c} h m) = let k = run radix small m in record { ds = c ∷ k.ds; digits = (small c h, k.digits); is = ap (λ l. c ∷ l) k.is }

record SomeRun (radix : ℕ) (t r : List ℕ) : Type 0 where
  ds : List ℕ
  numeral : IsNumeral radix ds
  is : t ≡ ds ++ r

some_run : {p : ℕ → Bool} {t r : List ℕ} (radix : ℕ) → ((c : ℕ) → IsTrue (p c) → digit_value c < radix) → AllOf p t r → SomeRun radix t r
some_run radix small (AllOf.all_of {c = c} h m ends) =
    let k = run radix small m in
    record { ds = c ∷ k.ds; numeral = (omega arith, (small c h, k.digits)); is = ap (λ l. c ∷ l) k.is }

to_the_end : {p : ℕ → Bool} {t : List ℕ} (radix : ℕ) → ((c : ℕ) → IsTrue (p c) → digit_value c < radix) → AllOf p t [] → IsNumeral radix t
to_the_end radix small h = let k = some_run radix small h in subst (IsNumeral radix) (sym (k.is ∙ append-nil k.ds)) k.numeral

many : {p : ℕ → Bool} (radix : ℕ) → ((c : ℕ) → digit_value c < radix → IsTrue (p c)) → (ds r : List ℕ) → AllDigits radix ds → Many p (ds ++ r) r
many radix small [] r h = Many.stop
many radix small (d ∷ ds) r h = Many.step (small d h.0) (many radix small ds r h.1)

all_of : {p : ℕ → Bool} (radix : ℕ) → ((c : ℕ) → digit_value c < radix → IsTrue (p c)) → (d : ℕ) (ds r : List ℕ) → AllDigits radix (d ∷ ds) → IsTrue (no p (next r)) → AllOf p (d ∷ (ds ++ r)) r
all_of radix small d ds r h ends = AllOf.all_of (small d h.0) (many radix small ds r h.1) ends

all_to_end : {p : ℕ → Bool} (radix : ℕ) → ((c : ℕ) → digit_value c < radix → IsTrue (p c)) → (ds : List ℕ) → IsNumeral radix ds → AllOf p ds []
all_to_end radix small [] n = absurd (omega (arith, n.0))
all_to_end {p} radix small (d ∷ ds) n = AllOf.all_of (small d n.1.0) (subst (λ t. Many p t []) (append-nil ds) (many radix small ds [] n.1.1)) refl

-- from the grammar: the parts of a number
record WholePart (t u : List ℕ) : Type 0 where
  w : List ℕ
  whole : Whole w
  some : 0 < length w
  is : t ≡ w ++ u

first_digit : (c : ℕ) → IsTrue (is_in_range 0x31 0x39 c) → (digit_value c < 10) × (c ≡ 0x30 → ⊥)
first_digit c h = (small c h, apart c h)
  where
    small : (c : ℕ) → IsTrue (is_in_range 0x31 0x39 c) → digit_value c < 10
    small c h = grind arith

    apart : (c : ℕ) → IsTrue (is_in_range 0x31 0x39 c) → c ≡ 0x30 → ⊥
    apart c h e = grind arith

whole_part : {t u : List ℕ} → grammar.Whole t u → WholePart t u
whole_part (grammar.Whole.zero h) = record { w = 0x30 ∷ []; whole = record { digits = (omega arith, tt); lone_zero = λ e. refl }; some = omega arith; is = refl }
whole_part (grammar.Whole.digits {c = c} h m ends) =
    let k = run 10 small_digit m in
    let f = first_digit c h in
    record { w = c ∷ k.ds; whole = record { digits = (f.0, k.digits); lone_zero = λ e. absurd (f.1 e) }; some = omega arith; is = ap (λ l. c ∷ l) k.is }

record FractionPart (t u : List ℕ) : Type 0 where
  p : List ℕ
  f : List ℕ
  fraction : Fraction p f
  is : t ≡ p ++ u

fraction_part : {t u : List ℕ} → grammar.Fraction all_on t u → FractionPart t u
fraction_part (grammar.Fraction.none h) = record { p = []; f = []; fraction = Fraction.none; is = refl }
fraction_part (grammar.Fraction.point h) = let k = some_run 10 small_digit h in record { p = 0x2E ∷ k.ds; f = k.ds; fraction = Fraction.point k.numeral.1; is = ap (λ l. 0x2E ∷ l) k.is }
fraction_part (grammar.Fraction.bare_point o h) = record { p = 0x2E ∷ []; f = []; fraction = Fraction.point tt; is = refl }

record ExponentPart (t : List ℕ) : Type 0 where
  up : ℕ
  down : ℕ
  exponent : Exponent t up down

sign_cases : (s : ℕ) → IsTrue (is_sign s) → (s ≡ 0x2B) ⊎ (s ≡ 0x2D)
sign_cases s h = grind arith

signed_part : (e s : ℕ) (ds : List ℕ) → IsTrue (is_e e) → IsTrue (is_sign s) → IsNumeral 10 ds → ExponentPart (e ∷ s ∷ ds)
signed_part e s ds is sign n =
    elim (sign_cases s sign) [
      | inl q ↦ record { up = digits_value 10 ds; down = 0; exponent = rw q (Exponent.plus is n) }
      | inr q ↦ record { up = 0; down = digits_value 10 ds; exponent = rw q (Exponent.minus is n) }
    ]

exponent_part : {t : List ℕ} → grammar.Exponent t [] → ExponentPart t
exponent_part (grammar.Exponent.none h) = record { up = 0; down = 0; exponent = Exponent.none }
exponent_part (grammar.Exponent.digits {e = e} {t = t} is h) = record { up = digits_value 10 t; down = 0; exponent = Exponent.digits is (to_the_end 10 small_digit h) }
exponent_part (grammar.Exponent.signed {e = e} {s = s} {t = t} is sign h) = signed_part e s t is sign (to_the_end 10 small_digit h)

sign_part : {s u : List ℕ} {signed : Bool} → grammar.Sign all_on signed s u → (b : Bool) × Sign s b u
sign_part grammar.Sign.none = (false, Sign.none)
sign_part grammar.Sign.minus = (true, Sign.minus)
sign_part (grammar.Sign.plus o) = (false, Sign.plus)

no_digits : Whole []
no_digits = record { digits = tt; lone_zero = λ e. absurd (omega (arith, e)) }

unsigned_part : {u : List ℕ} {signed : Bool} (s : List ℕ) (b : Bool) → grammar.Unsigned all_on signed u [] → Sign s b u → (x : Float) × WritesFloat s x
unsigned_part s b (grammar.Unsigned.hex {t = t} o is h) sign = (_, WritesFloat.nearest sign (Unsigned.hexadecimal (Hexadecimal.hexadecimal is (to_the_end 16 small_hex_digit h))))
unsigned_part s b (grammar.Unsigned.decimal {t = t} {u = u} {v = v} whole fraction exponent) sign =
    let h = whole_part whole in
    let k = fraction_part fraction in
    let e = exponent_part exponent in
    let some : 0 < length (h.w ++ k.f) = omega (arith, h.some, length-append h.w k.f) in
    let is : t ≡ h.w ++ (k.p ++ v) = h.is ∙ ap (λ r. h.w ++ r) k.is in
    (_, WritesFloat.nearest (subst (Sign s b) is sign) (Unsigned.decimal (Decimal.decimal h.whole k.fraction e.exponent some)))
unsigned_part s b (grammar.Unsigned.bare_point {t = t} {u = u} o h exponent) sign =
    let k = some_run 10 small_digit h in
    let e = exponent_part exponent in
    let is : 0x2E ∷ t ≡ 0x2E ∷ (k.ds ++ u) = ap (λ r. 0x2E ∷ r) k.is in
    (_, WritesFloat.nearest (subst (Sign s b) is sign) (Unsigned.decimal (Decimal.decimal no_digits (Fraction.point k.numeral.1) e.exponent k.numeral.0)))
unsigned_part s b (grammar.Unsigned.infinity o ends) sign = (_, WritesFloat.infinity sign)
unsigned_part s b (grammar.Unsigned.nan o ends) sign = (_, WritesFloat.nan sign)

pub grammar_writes : (s : List ℕ) → NumberLit all_on s → (x : Float) × WritesFloat s x
grammar_writes s h = let g = sign_part h.2 in unsigned_part s g.0 h.3 g.1

-- and back to it
sign_back : {s u : List ℕ} {b : Bool} → Sign s b u → (signed : Bool) × grammar.Sign all_on signed s u
sign_back Sign.none = (false, grammar.Sign.none)
sign_back Sign.plus = (true, grammar.Sign.plus refl)
sign_back Sign.minus = (true, grammar.Sign.minus)

-- what is after a run of digits begins with none of these
record Ends (t : List ℕ) : Type 0 where
  no_digit : IsTrue (no is_digit (next t))
  no_x : IsTrue (no is_x (next t))
  no_point : IsTrue (no is_point (next t))

e_ends : (e : ℕ) (t : List ℕ) → IsTrue (is_e e) → Ends (e ∷ t)
e_ends e t is = record { no_digit = digit e is; no_x = x e is; no_point = point e is }
  where
    digit : (e : ℕ) → IsTrue (is_e e) → IsTrue (not (is_digit e))
    digit e h = grind arith

    x : (e : ℕ) → IsTrue (is_e e) → IsTrue (not (is_x e))
    x e h = grind arith

    point : (e : ℕ) → IsTrue (is_e e) → IsTrue (not (is_point e))
    point e h = grind arith

exponent_ends : {x : List ℕ} {up down : ℕ} → Exponent x up down → Ends x
exponent_ends Exponent.none = record { no_digit = refl; no_x = refl; no_point = refl }
exponent_ends (Exponent.digits {e = e} {ds = ds} is n) = e_ends e ds is
exponent_ends (Exponent.plus {e = e} {ds = ds} is n) = e_ends e (0x2B ∷ ds) is
exponent_ends (Exponent.minus {e = e} {ds = ds} is n) = e_ends e (0x2D ∷ ds) is

exponent_back : {x : List ℕ} {up down : ℕ} → Exponent x up down → grammar.Exponent x []
exponent_back Exponent.none = grammar.Exponent.none refl
exponent_back (Exponent.digits {ds = ds} is n) = grammar.Exponent.digits is (all_to_end 10 digit_small ds n)
exponent_back (Exponent.plus {ds = ds} is n) = grammar.Exponent.signed is refl (all_to_end 10 digit_small ds n)
exponent_back (Exponent.minus {ds = ds} is n) = grammar.Exponent.signed is refl (all_to_end 10 digit_small ds n)

fraction_back : {p f : List ℕ} (x : List ℕ) → Ends x → Fraction p f → grammar.Fraction all_on (p ++ x) x
fraction_back x ends Fraction.none = grammar.Fraction.none ends.no_point
fraction_back x ends (Fraction.point {f = []} g) = grammar.Fraction.bare_point refl ends.no_digit
fraction_back x ends (Fraction.point {f = d ∷ ds} g) = grammar.Fraction.point (all_of 10 digit_small d ds x g ends.no_digit)

fraction_ends : {p f : List ℕ} (x : List ℕ) → Ends x → Fraction p f → IsTrue (no is_digit (next (p ++ x))) × IsTrue (no is_x (next (p ++ x)))
fraction_ends x ends Fraction.none = (ends.no_digit, ends.no_x)
fraction_ends x ends (Fraction.point g) = (refl, refl)

above_zero : (c : ℕ) → digit_value c < 10 → 0x30 < c → IsTrue (is_in_range 0x31 0x39 c)
above_zero c h l = let r = digit_from_value c h in grind arith

zero_or_more : (c : ℕ) → digit_value c < 10 → (c ≡ 0x30) ⊎ (0x30 < c)
zero_or_more c h = let r = digit_from_value c h in elim (cases_lt 0x30 c) [ inl l ↦ inr l | inr l ↦ inl (omega arith) ]

whole_back : (c : ℕ) (w r : List ℕ) → Whole (c ∷ w) → IsTrue (no is_digit (next r)) → IsTrue (no is_x (next r)) → grammar.Whole (c ∷ (w ++ r)) r
whole_back c w r h no_digit no_x = go w (zero_or_more c h.digits.0) h
  where
    go : (w : List ℕ) → (c ≡ 0x30) ⊎ (0x30 < c) → Whole (c ∷ w) → grammar.Whole (c ∷ (w ++ r)) r
    go w (inr l) h = grammar.Whole.digits (above_zero c h.digits.0 l) (many 10 digit_small w r h.digits.1) no_digit
    go [] (inl e) h = rw e (grammar.Whole.zero no_x)
    go (d ∷ w) (inl e) h = absurd (omega (arith, h.lone_zero e))

decimal_back : (signed : Bool) (w p f x : List ℕ) (up down : ℕ) → Whole w → Fraction p f → Exponent x up down → 0 < length (w ++ f) → grammar.Unsigned all_on signed (w ++ (p ++ x)) []
decimal_back signed [] _ _ x up down h Fraction.none e some = absurd (omega (arith, some))
decimal_back signed [] _ _ x up down h (Fraction.point {f = []} g) e some = absurd (omega (arith, some))
decimal_back signed [] _ _ x up down h (Fraction.point {f = d ∷ ds} g) e some =
    grammar.Unsigned.bare_point refl (all_of 10 digit_small d ds x g (exponent_ends e).no_digit) (exponent_back e)
decimal_back signed (c ∷ w) p f x up down h fraction e some =
    let ends = fraction_ends x (exponent_ends e) fraction in
    grammar.Unsigned.decimal (whole_back c w (p ++ x) h ends.0 ends.1) (fraction_back x (exponent_ends e) fraction) (exponent_back e)

unsigned_back : {u : List ℕ} {m d : ℕ} (signed : Bool) → Unsigned u m d → grammar.Unsigned all_on signed u []
unsigned_back signed (Unsigned.decimal (Decimal.decimal {w = w} {p = p} {f = f} {x = x} {up = up} {down = down} h fraction exponent some)) = decimal_back signed w p f x up down h fraction exponent some
unsigned_back signed (Unsigned.hexadecimal (Hexadecimal.hexadecimal {ds = ds} is n)) = grammar.Unsigned.hex refl is (all_to_end 16 hex_digit_small ds n)

name_ends : (signed : Bool) → EndsName signed None
name_ends true = refl
name_ends false = refl

pub writes_grammar : {s : List ℕ} {x : Float} → WritesFloat s x → NumberLit all_on s
writes_grammar (WritesFloat.nearest {u = u} sign h) = let g = sign_back sign in (g.0, u, g.1, unsigned_back g.0 h)
writes_grammar (WritesFloat.infinity sign) = let g = sign_back sign in (g.0, codes "Infinity", g.1, grammar.Unsigned.infinity {r = []} refl (name_ends g.0))
writes_grammar (WritesFloat.nan sign) = let g = sign_back sign in (g.0, codes "NaN", g.1, grammar.Unsigned.nan {r = []} refl (name_ends g.0))

-- a text writes one number
same_sign : {s u v : List ℕ} {b c : Bool} → Sign s b u → Sign s c v → IsTrue (no is_sign (next u)) → IsTrue (no is_sign (next v)) → (b ≡ c) × (u ≡ v)
same_sign Sign.none Sign.none h k = (refl, refl)
same_sign Sign.none Sign.plus h k = absurd (true≢false (sym h))
same_sign Sign.none Sign.minus h k = absurd (true≢false (sym h))
same_sign {v = v} {c = c} (Sign.plus {u = u}) sign h k = sign_plus (0x2B ∷ u) u v c refl sign k
same_sign {v = v} {c = c} (Sign.minus {u = u}) sign h k = sign_minus (0x2D ∷ u) u v c refl sign k

same_unsigned : {u : List ℕ} {m d k e : ℕ} → Unsigned u m d → Unsigned u k e → (m ≡ k) × (d ≡ e)
same_unsigned {u} {m} {d} {k} {e} (Unsigned.decimal h) (Unsigned.decimal g) =
    let p = decimal_parts u (scan_numeral u) refl m d h in
    let q = decimal_parts u (scan_numeral u) refl k e g in
    (sym p.digits ∙ q.digits, sym p.tens ∙ q.tens)
same_unsigned (Unsigned.decimal h) (Unsigned.hexadecimal (Hexadecimal.hexadecimal {x = x} {ds = ds} is n)) = absurd (decimal_no_hex ds h (x, is, refl))
same_unsigned {u} {m} {d} {k} {e} (Unsigned.hexadecimal (Hexadecimal.hexadecimal {x = x} {ds = ds} is n)) g = let v = hex_value _ ds k e (x, is, refl) g in (sym v.digits, sym v.one)

unsigned_tens : {u : List ℕ} {m d : ℕ} → Unsigned u m d → 1 ≤ d
unsigned_tens (Unsigned.decimal (Decimal.decimal {f = f} {down = down} h fraction exponent some)) = ten_to_pos (length f + down)
unsigned_tens (Unsigned.hexadecimal h) = omega arith

pub one_integer : (s : List ℕ) (y z : ℤ) → WritesInteger s y → WritesInteger s z → y ≡ z
one_integer s y z h g =
    let p = integer_parts h in
    let q = integer_parts g in
    let same = same_sign p.sign q.sign p.first q.first in
    let w : WritesWhole q.u p.k = subst (λ u. WritesWhole u p.k) same.1 p.whole in
    let e = same_unsigned w.2 q.whole.2 in
    let f : p.k * w.1 ≡ q.k * w.1 = w.3 ∙ e.0 ∙ sym q.whole.3 ∙ ap (λ d. q.k * d) (sym e.1) in
    p.is ∙ ap₂ with_sign same.0 (cancel p.k q.k w.1 (unsigned_tens w.2) f) ∙ sym q.is

number_first : {u : List ℕ} {m d : ℕ} → Unsigned u m d → get_or u 0 0 < 0x3A
number_first (Unsigned.decimal (Decimal.decimal {w = w} {x = x} h fraction exponent some)) = go w _ _ h fraction some
  where
    go : (w p f : List ℕ) → Whole w → Fraction p f → 0 < length (w ++ f) → get_or (w ++ (p ++ x)) 0 0 < 0x3A
    go [] _ _ h Fraction.none some = absurd (omega (arith, some))
    go [] _ _ h (Fraction.point g) some = omega arith
    go (c ∷ w) p f h fraction some = let r = digit_from_value c h.digits.0 in omega (arith, r.1)
number_first (Unsigned.hexadecimal (Hexadecimal.hexadecimal is n)) = omega arith

-- the float of a text after its sign
data FloatOf (u : List ℕ) (b : Bool) : Float → Type 0 where
  number : {m d : ℕ} → Unsigned u m d → FloatOf u b (round binary64 b m d)
  infinity : u ≡ codes "Infinity" → FloatOf u b (inf b)
  nan : u ≡ codes "NaN" → FloatOf u b not_a_number

record HasFloat (s : List ℕ) (x : Float) : Type 0 where
  b : Bool
  u : List ℕ
  sign : Sign s b u
  first : IsTrue (no is_sign (next u))
  is : FloatOf u b x

float_parts : {s : List ℕ} {x : Float} → WritesFloat s x → HasFloat s x
float_parts (WritesFloat.nearest {u = u} {negative = b} sign h) = record { b = b; u = u; sign = sign; first = unsigned_first h; is = FloatOf.number h }
float_parts (WritesFloat.infinity {negative = b} sign) = record { b = b; u = codes "Infinity"; sign = sign; first = refl; is = FloatOf.infinity refl }
float_parts (WritesFloat.nan {negative = b} sign) = record { b = b; u = codes "NaN"; sign = sign; first = refl; is = FloatOf.nan refl }

no_word : {u : List ℕ} {m d : ℕ} (v : List ℕ) → Unsigned u m d → u ≡ v → 0x3A ≤ get_or v 0 0 → ⊥
no_word v h e l = omega (arith, number_first h, ap (λ t. get_or t 0 0) e)

same_float : {u : List ℕ} {b : Bool} {x y : Float} → FloatOf u b x → FloatOf u b y → x ≡ y
same_float {b = b} (FloatOf.number h) (FloatOf.number g) = let e = same_unsigned h g in ap₂ (round binary64 b) e.0 e.1
same_float (FloatOf.number h) (FloatOf.infinity e) = absurd (no_word (codes "Infinity") h e (omega arith))
same_float (FloatOf.number h) (FloatOf.nan e) = absurd (no_word (codes "NaN") h e (omega arith))
same_float (FloatOf.infinity e) (FloatOf.number h) = absurd (no_word (codes "Infinity") h e (omega arith))
same_float (FloatOf.infinity e) (FloatOf.infinity f) = refl
same_float (FloatOf.infinity e) (FloatOf.nan f) = absurd (omega (arith, ap (λ t. get_or t 0 0) (sym e ∙ f)))
same_float (FloatOf.nan e) (FloatOf.number h) = absurd (no_word (codes "NaN") h e (omega arith))
same_float (FloatOf.nan e) (FloatOf.infinity f) = absurd (omega (arith, ap (λ t. get_or t 0 0) (sym e ∙ f)))
same_float (FloatOf.nan e) (FloatOf.nan f) = refl

pub one_float : (s : List ℕ) (x y : Float) → WritesFloat s x → WritesFloat s y → x ≡ y
one_float s x y h g =
    let p = float_parts h in
    let q = float_parts g in
    let same = same_sign p.sign q.sign p.first q.first in
    same_float (subst (λ b. FloatOf q.u b x) same.0 (subst (λ u. FloatOf u p.b x) same.1 p.is)) q.is
