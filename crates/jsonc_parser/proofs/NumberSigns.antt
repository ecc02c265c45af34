-- What a text with its sign writes, and that its characters are its bytes.
use Rattle.std.proofs.Common.{◌≡◌, ◌≢◌, ℕ, zero, suc, ◌^◌, ◌<◌, ◌≤◌, Bool, true, false, true≢false, not, ◌&&◌, List, [], ◌∷◌, ◌++◌, length, get_or, drop, IsTrue, IsAscii, IsUtf8, chars, codes, ltb, Option, Some, None, IfSome, IfNone, SomeIff, ℤ, pos, nat_abs, FitsSigned, w64, refl, sym, ap, subst, ◌∙◌, ◌⊎◌, inl, inr, arith}
use Rattle.std.proofs.lemmas.Bool.{and_parts, ltb-true}
use Rattle.std.proofs.lemmas.Str.{chars-IsAscii, encodes-chars, encodes-IsAscii}
use Rattle.std.proofs.lemmas.Str.Ascii.{IsAscii-nil, IsAscii-cons}
use Rattle.std.proofs.lemmas.Str.Parse.{digit_from_value}
use Rattle.std.specs.Char.{digit_value}
use Rattle.std.specs.Float.Ieee.{Float, binary64, round, inf, nan as not_a_number}
use Rattle.std.specs.Str.Parse.{AllDigits}
use Rattle.fast_float.specs.Text.{with_sign}
use Rattle.jsonc_text.specs.Text.{next, no}
use Rattle.jsonc_text.specs.Numbers.{is_x, is_e, is_sign}
use Rattle.jsonc_parser.specs.Numbers.{Sign, Whole, Fraction, Exponent, Decimal, Hexadecimal, Unsigned, WritesWhole, WritesInteger, WritesFloat, IsLongHexadecimal}

pub if_none : {A : Type 0} {P : Type 0} (r : Option A) → P → IfNone r P
if_none None p = p
if_none (Some x) p = tt

-- the sign that a reader finds is the only one
pub sign_minus : (s t u : List ℕ) (b : Bool) → s ≡ 0x2D ∷ t → Sign s b u → IsTrue (no is_sign (next u)) → (true ≡ b) × (t ≡ u)
sign_minus s t u _ e Sign.none no = absurd (true≢false (sym (rw e at no)))
sign_minus s t u _ e Sign.plus no = absurd (omega (arith, ap (λ l. get_or l 0 0) e))
sign_minus s t u _ e Sign.minus no = (refl, sym (ap (λ l. drop 1 l) e))

pub sign_plus : (s t u : List ℕ) (b : Bool) → s ≡ 0x2B ∷ t → Sign s b u → IsTrue (no is_sign (next u)) → (false ≡ b) × (t ≡ u)
sign_plus s t u _ e Sign.none no = absurd (true≢false (sym (rw e at no)))
sign_plus s t u _ e Sign.plus no = (refl, sym (ap (λ l. drop 1 l) e))
sign_plus s t u _ e Sign.minus no = absurd (omega (arith, ap (λ l. get_or l 0 0) e))

pub sign_none : (s u : List ℕ) (b : Bool) → ((t : List ℕ) → s ≢ 0x2D ∷ t) → ((t : List ℕ) → s ≢ 0x2B ∷ t) → Sign s b u → (false ≡ b) × (s ≡ u)
sign_none s _ _ minus plus Sign.none = (refl, refl)
sign_none s u _ minus plus Sign.plus = absurd (plus u refl)
sign_none s u _ minus plus Sign.minus = absurd (minus u refl)

-- a number begins with no second sign
digit_no_sign : (c : ℕ) → digit_value c < 10 → IsTrue (not (is_sign c))
digit_no_sign c h = let r = digit_from_value c h in grind arith

decimal_first : (w p f x : List ℕ) → Whole w → Fraction p f → 0 < length (w ++ f) → IsTrue (no is_sign (next (w ++ (p ++ x))))
decimal_first [] _ _ x h Fraction.none some = absurd (omega (arith, some))
decimal_first [] _ _ x h (Fraction.point g) some = refl
decimal_first (c ∷ w) p f x h fraction some = digit_no_sign c h.digits.0

pub unsigned_first : {u : List ℕ} {m d : ℕ} → Unsigned u m d → IsTrue (no is_sign (next u))
unsigned_first (Unsigned.decimal (Decimal.decimal {w = w} {p = p} {f = f} {x = x} h fraction exponent some)) = decimal_first w p f x h fraction some
unsigned_first (Unsigned.hexadecimal (Hexadecimal.hexadecimal is n)) = refl

-- the sign of an integer, and the whole number after it
pub record HasInteger (s : List ℕ) (z : ℤ) : Type 0 where
  pub negative : Bool
  pub u : List ℕ
  pub k : ℕ
  pub sign : Sign s negative u
  pub first : IsTrue (no is_sign (next u))
  pub whole : WritesWhole u k
  pub is : z ≡ with_sign negative k

pub integer_parts : {s : List ℕ} {z : ℤ} → WritesInteger s z → HasInteger s z
integer_parts (WritesInteger.integer {u = u} negative n sign w) =
    record { negative = negative; u = u; k = n; sign = sign; first = unsigned_first w.2; whole = w; is = refl }

-- a sign before a whole number
pub signed_pos : (b : Bool) (k n : ℕ) → pos n ≡ with_sign b k → (n ≡ k) × (b ≡ true → k ≡ 0)
signed_pos false k n e = (ap nat_abs e, λ t. absurd (true≢false (sym t)))
signed_pos true zero n e = (ap nat_abs e, λ t. refl)
signed_pos true (suc k) n e = cc

pub signed_fits : (b : Bool) (k : ℕ) → FitsSigned w64 (with_sign b k) → k < 2 ^ 64
signed_fits false k h = omega (arith, h.sfits)
signed_fits true zero h = omega arith
signed_fits true (suc k) h = omega (arith, h.sfits)

pub unsigned_integer : {s u : List ℕ} (b : Bool) (n : ℕ) → Sign s b u → WritesWhole u n → (b ≡ false) ⊎ (n ≡ 0) → WritesInteger s (pos n)
unsigned_integer false n sign w h = WritesInteger.integer false n sign w
unsigned_integer true zero sign w h = WritesInteger.integer true zero sign w
unsigned_integer true (suc n) sign w (inl e) = absurd (true≢false e)
unsigned_integer true (suc n) sign w (inr e) = absurd (omega arith)

pub signed_some : {s : List ℕ} (r : Option ℤ) (z : ℤ) → SomeIff r (FitsSigned w64 z) z → WritesInteger s z → IfSome r (WritesInteger s)
signed_some None z h w = tt
signed_some {s} (Some y) z h w = subst (WritesInteger s) (sym h.1) w

pub signed_none : {s : List ℕ} (r : Option ℤ) (z : ℤ) → SomeIff r (FitsSigned w64 z) z → ((y : ℤ) → WritesInteger s y → y ≡ z) → IfNone r ((y : ℤ) → FitsSigned w64 y → WritesInteger s y → ⊥)
signed_none None z h only = λ y fits w. h (subst (FitsSigned w64) (only y w) fits)
signed_none (Some y) z h only = tt

-- numbers are ASCII
append_ascii : (xs ys : List ℕ) → IsAscii xs → IsAscii ys → IsAscii (xs ++ ys)
append_ascii [] ys h k = k
append_ascii (x ∷ xs) ys h k = IsAscii-cons x (xs ++ ys) (h zero) (append_ascii xs ys (λ i. h (suc i)) k)

digit_ascii : (c : ℕ) → digit_value c < 16 → c < 128
digit_ascii c h = grind arith

digits_ascii : (radix : ℕ) (ds : List ℕ) → radix ≤ 16 → AllDigits radix ds → IsAscii ds
digits_ascii radix [] l h = IsAscii-nil
digits_ascii radix (d ∷ ds) l h = IsAscii-cons d ds (digit_ascii d (omega (arith, h.0))) (digits_ascii radix ds l h.1)

e_ascii : (e : ℕ) → IsTrue (is_e e) → e < 128
e_ascii e h = grind arith

x_ascii : (x : ℕ) → IsTrue (is_x x) → x < 128
x_ascii x h = grind arith

fraction_ascii : {p f : List ℕ} → Fraction p f → IsAscii p
fraction_ascii Fraction.none = IsAscii-nil
fraction_ascii (Fraction.point {f = f} g) = IsAscii-cons 0x2E f (omega arith) (digits_ascii 10 f (omega arith) g)

exponent_ascii : {x : List ℕ} {up down : ℕ} → Exponent x up down → IsAscii x
exponent_ascii Exponent.none = IsAscii-nil
exponent_ascii (Exponent.digits {e = e} {ds = ds} is n) = IsAscii-cons e ds (e_ascii e is) (digits_ascii 10 ds (omega arith) n.1)
exponent_ascii (Exponent.plus {e = e} {ds = ds} is n) = IsAscii-cons e (0x2B ∷ ds) (e_ascii e is) (IsAscii-cons 0x2B ds (omega arith) (digits_ascii 10 ds (omega arith) n.1))
exponent_ascii (Exponent.minus {e = e} {ds = ds} is n) = IsAscii-cons e (0x2D ∷ ds) (e_ascii e is) (IsAscii-cons 0x2D ds (omega arith) (digits_ascii 10 ds (omega arith) n.1))

hexadecimal_ascii : {u : List ℕ} {n : ℕ} → Hexadecimal u n → IsAscii u
hexadecimal_ascii (Hexadecimal.hexadecimal {x = x} {ds = ds} is n) = IsAscii-cons 0x30 (x ∷ ds) (omega arith) (IsAscii-cons x ds (x_ascii x is) (digits_ascii 16 ds (omega arith) n.1))

pub unsigned_ascii : {u : List ℕ} {m d : ℕ} → Unsigned u m d → IsAscii u
unsigned_ascii (Unsigned.decimal (Decimal.decimal {w = w} {p = p} {f = f} {x = x} h fraction exponent some)) =
    append_ascii w (p ++ x) (digits_ascii 10 w (omega arith) h.digits) (append_ascii p x (fraction_ascii fraction) (exponent_ascii exponent))
unsigned_ascii (Unsigned.hexadecimal h) = hexadecimal_ascii h

pub sign_ascii : {s u : List ℕ} {b : Bool} → Sign s b u → IsAscii u → IsAscii s
sign_ascii Sign.none h = h
sign_ascii (Sign.plus {u = u}) h = IsAscii-cons 0x2B u (omega arith) h
sign_ascii (Sign.minus {u = u}) h = IsAscii-cons 0x2D u (omega arith) h

pub integer_ascii : (s : List ℕ) (z : ℤ) → WritesInteger s z → IsAscii s
integer_ascii s z h = let p = integer_parts h in sign_ascii p.sign (unsigned_ascii p.whole.2)

abbrev pub are_small : List ℕ → Bool
are_small [] = true
are_small (w ∷ ws) = ltb w 128 && are_small ws

pub small_ascii : (bs : List ℕ) → are_small bs ≡ true → IsAscii bs
small_ascii [] h = IsAscii-nil
small_ascii (b ∷ bs) h = IsAscii-cons b bs (ltb-true b 128 (and_parts _ _ h).0) (small_ascii bs (and_parts _ _ h).1)

pub float_ascii : {s : List ℕ} {x : Float} → WritesFloat s x → IsAscii s
float_ascii (WritesFloat.nearest sign h) = sign_ascii sign (unsigned_ascii h)
float_ascii (WritesFloat.infinity sign) = sign_ascii sign (small_ascii (codes "Infinity") refl)
float_ascii (WritesFloat.nan sign) = sign_ascii sign (small_ascii (codes "NaN") refl)

pub long_ascii : (s : List ℕ) → IsLongHexadecimal s → IsAscii s
long_ascii s h = sign_ascii h.3 (hexadecimal_ascii h.4)

-- so what holds of a text's bytes holds of its characters, and the other way
pub to_chars : (P : List ℕ → Type 0) → ((s : List ℕ) → P s → IsAscii s) → (bs : List ℕ) → P bs → P (chars bs)
to_chars P ascii bs h = subst P (sym (chars-IsAscii bs (ascii bs h))) h

pub from_chars : (P : List ℕ → Type 0) → ((s : List ℕ) → P s → IsAscii s) → (bs : List ℕ) → IsUtf8 bs → P (chars bs) → P bs
from_chars P ascii bs u h = subst P (sym (encodes-IsAscii (chars bs) (ascii (chars bs) h)) ∙ encodes-chars bs u) h

pub if_none_map : {A : Type 0} {P Q : Type 0} (r : Option A) → (P → Q) → IfNone r P → IfNone r Q
if_none_map None f h = f h
if_none_map (Some x) f h = tt

pub if_some_map : {A : Type 0} {P Q : A → Type 0} (r : Option A) → ((x : A) → P x → Q x) → IfSome r P → IfSome r Q
if_some_map None f h = tt
if_some_map (Some x) f h = f x h

-- what a reader of the text s finds: the sign b, and then t
abbrev pub IsOnlySign : List ℕ → Bool → List ℕ → Type 0
IsOnlySign s b t = (negative : Bool) (u : List ℕ) → Sign s negative u → IsTrue (no is_sign (next u)) → (b ≡ negative) × (t ≡ u)

-- the integer is that of t, with the sign
pub record IsSigned (b : Bool) (t : List ℕ) (z : ℤ) : Type 0 where
  pub k : ℕ
  pub whole : WritesWhole t k
  pub is : z ≡ with_sign b k

pub integer_behind : (s t : List ℕ) (b : Bool) → IsOnlySign s b t → IsUtf8 s → (z : ℤ) → WritesInteger (chars s) z → IsSigned b t z
integer_behind s t b only utf8 z h =
    let p = integer_parts (from_chars (λ r. WritesInteger r z) (λ r. integer_ascii r z) s utf8 h) in
    let o = only p.negative p.u p.sign p.first in
    record { k = p.k; whole = subst (λ u. WritesWhole u p.k) (sym o.1) p.whole; is = p.is ∙ ap (λ n. with_sign n p.k) (sym o.0) }

-- t, after the sign, is a number, or one of two words
pub data FloatText (t : List ℕ) : Type 0 where
  number : (m d : ℕ) → Unsigned t m d → FloatText t
  infinity : t ≡ codes "Infinity" → FloatText t
  nan : t ≡ codes "NaN" → FloatText t

float_text : {s : List ℕ} {x : Float} (t : List ℕ) (b : Bool) → IsOnlySign s b t → WritesFloat s x → FloatText t
float_text t b only (WritesFloat.nearest {u = u} {negative = negative} {m = m} {d = d} sign h) = FloatText.number m d (subst (λ r. Unsigned r m d) (sym (only negative u sign (unsigned_first h)).1) h)
float_text t b only (WritesFloat.infinity {negative = negative} sign) = FloatText.infinity (only negative (codes "Infinity") sign refl).1
float_text t b only (WritesFloat.nan {negative = negative} sign) = FloatText.nan (only negative (codes "NaN") sign refl).1

pub float_behind : (s t : List ℕ) (b : Bool) → IsOnlySign s b t → IsUtf8 s → (x : Float) → WritesFloat (chars s) x → FloatText t
float_behind s t b only utf8 x h = float_text t b only (from_chars (λ r. WritesFloat r x) (λ r w. float_ascii w) s utf8 h)

pub float_to_chars : (s : List ℕ) (x : Float) → WritesFloat s x → WritesFloat (chars s) x
float_to_chars s x h = to_chars (λ r. WritesFloat r x) (λ r w. float_ascii w) s h

pub infinity_text : (s t : List ℕ) (b : Bool) (x : Float) → Sign s b t → t ≡ codes "Infinity" → x ≡ inf b → WritesFloat (chars s) x
infinity_text s t b x sign e v = float_to_chars s x (subst (WritesFloat s) (sym v) (WritesFloat.infinity (subst (Sign s b) e sign)))

pub nan_text : (s t : List ℕ) (b : Bool) (x : Float) → Sign s b t → t ≡ codes "NaN" → x ≡ not_a_number → WritesFloat (chars s) x
nan_text s t b x sign e v = float_to_chars s x (subst (WritesFloat s) (sym v) (WritesFloat.nan (subst (Sign s b) e sign)))

-- what is found of the number t after the sign
abbrev IsNearest : List ℕ → Bool → Float → Type 0
IsNearest t b x = (m d : ℕ) × Unsigned t m d × (x ≡ round binary64 b m d)

abbrev NumbersAreLong : List ℕ → Type 0
NumbersAreLong t = (m d : ℕ) → Unsigned t m d → Hexadecimal t m × (2 ^ 64 ≤ m)

pub number_text : (s t : List ℕ) (b : Bool) (r : Option Float) → Sign s b t → IfSome r (IsNearest t b) → IfSome r (WritesFloat (chars s))
number_text s t b r sign h = if_some_map r (λ x w. float_to_chars s x (subst (WritesFloat s) (sym w.3) (WritesFloat.nearest sign w.2))) h

pub no_text : (s t : List ℕ) (b : Bool) (r : Option Float) → Sign s b t → IsOnlySign s b t → IsUtf8 s → t ≢ codes "Infinity" → t ≢ codes "NaN" → IfNone r (NumbersAreLong t)
    → IfNone r ((x : Float) → WritesFloat (chars s) x → IsLongHexadecimal (chars s))
no_text s t b r sign only utf8 no_infinity no_nan h = if_none_map r long h
  where
    by : NumbersAreLong t → FloatText t → IsLongHexadecimal s
    by long (FloatText.number m d w) = let v = long m d w in (b, t, m, sign, v.0, v.1)
    by long (FloatText.infinity e) = absurd (no_infinity e)
    by long (FloatText.nan e) = absurd (no_nan e)

    long : NumbersAreLong t → (x : Float) → WritesFloat (chars s) x → IsLongHexadecimal (chars s)
    long h x w = to_chars IsLongHexadecimal long_ascii s (by h (float_behind s t b only utf8 x w))
