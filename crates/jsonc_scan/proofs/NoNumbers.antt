-- Where no number stands: each fault of a number in turn.
use Rattle.std.proofs.Common.{ℕ, ◌+◌, ◌≡◌, ◌∙◌, sym, ap, refl, Bool, true, false, List, ◌∷◌, Option, Some, None, IsTrue, arith, ◌==◌, ◌||◌, codes, Result, Ok, Err, IfErr}
use Rattle.jsonc_text.specs.Options.{Options}
use Rattle.jsonc_text.specs.Text.{rest, next, no, starts, AllOf, is_digit, is_hex_digit}
use Rattle.jsonc_text.specs.Chars.{Steps}
use Rattle.jsonc_text.specs.string.Between.{Between, Reaches, LacksAt, NoneFrom}
use Rattle.jsonc_scan.specs.Between.{HasAt, IsAlone}
use Rattle.jsonc_scan.specs.Reads.{NoNames, NoUnsigned}
use Rattle.jsonc_text.specs.Numbers.{Sign, Whole, Fraction, Exponent, Unsigned, Number, is_x, is_sign}
use Rattle.jsonc_text.specs.Words.{goes_on, EndsThere, EndsWhole}
use Rattle.jsonc_text.proofs.Basics.{clash, tails, apart, no_starts, or_left}
use Rattle.jsonc_scan.proofs.Reading.{no_also}
use Rattle.jsonc_text.proofs.UniqueGaps.{all_unique}
use Rattle.jsonc_text.proofs.UniqueNumbers.{whole_unique, fraction_unique, hex_no_decimal, whole_begins, all_no, unsigned_begins}

-- a fact of each error
pub err_any : {X E : Type 0} {P : Type 0} (r : Result X E) → P → IfErr r (λ _. P)
err_any (Ok x) p = tt
err_any (Err e) p = p

no_exponent_decimal : {o : Options} {a : Bool} {t u v r : List ℕ} → Whole t u → Fraction o u v → ((s : List ℕ) → Exponent v s → ⊥) → Unsigned o a t r → ⊥
no_exponent_decimal w f n (Unsigned.hex p q g) = hex_no_decimal q w
no_exponent_decimal {r = r} w f n (Unsigned.decimal d e z) =
    let p = whole_unique w d in
    let q = fraction_unique f (rw (sym p) at e) in
    n r (rw (sym q) at z)
no_exponent_decimal w f n (Unsigned.bare_point b x y) = clash true (whole_begins w) refl
no_exponent_decimal w f n (Unsigned.infinity b m) = clash true (whole_begins w) refl
no_exponent_decimal w f n (Unsigned.nan b m) = clash true (whole_begins w) refl

no_fraction_decimal : {o : Options} {a : Bool} {t u r : List ℕ} → Whole t u → ((s : List ℕ) → Fraction o u s → ⊥) → Unsigned o a t r → ⊥
no_fraction_decimal w n (Unsigned.hex p q g) = hex_no_decimal q w
no_fraction_decimal w n (Unsigned.decimal {v = v} d e z) = let p = whole_unique w d in n v (rw (sym p) at e)
no_fraction_decimal w n (Unsigned.bare_point b x y) = clash true (whole_begins w) refl
no_fraction_decimal w n (Unsigned.infinity b m) = clash true (whole_begins w) refl
no_fraction_decimal w n (Unsigned.nan b m) = clash true (whole_begins w) refl

pub decimal_without_exponent : (o : Options) (bytes : List ℕ) (i j k : ℕ) → Between Whole bytes i j → Reaches (Fraction o) bytes j k → NoneFrom Exponent bytes k → NoUnsigned o bytes i
decimal_without_exponent o bytes i j k w f n a r u = no_exponent_decimal w.piece f.piece n u

pub decimal_without_fraction : (o : Options) (bytes : List ℕ) (i j : ℕ) → Between Whole bytes i j → NoneFrom (Fraction o) bytes j → NoUnsigned o bytes i
decimal_without_fraction o bytes i j w n a r u = no_fraction_decimal w.piece n u

no_hex : {o : Options} {a : Bool} {x : ℕ} {t u r : List ℕ} → t ≡ 0x30 ∷ x ∷ u → IsTrue (is_x x) → (IsTrue o.hexadecimal_numbers → (s : List ℕ) → AllOf is_hex_digit u s → ⊥) → Unsigned o a t r → ⊥
no_hex {r = r} e q n (Unsigned.hex p k g) = n p r (rw (tails (tails e)) at g)
no_hex e q n (Unsigned.decimal d f z) = hex_no_decimal q (rw e at d)
no_hex e q n (Unsigned.bare_point b x y) = apart refl e
no_hex e q n (Unsigned.infinity b m) = apart refl e
no_hex e q n (Unsigned.nan b m) = apart refl e

two_marks : (bytes : List ℕ) (i : ℕ) → Steps bytes i 0x30 (i + 1) → (x : HasAt is_x bytes (i + 1)) → rest bytes i ≡ 0x30 ∷ x.0 ∷ rest bytes (i + 2)
two_marks bytes i z x =
    let two : (i + 1) + 1 ≡ i + 2 = omega arith in
    z.0 ∙ ap (λ t. 0x30 ∷ t) (x.2.0 ∙ ap (λ k. x.0 ∷ rest bytes k) two)

pub hex_refused : (o : Options) (bytes : List ℕ) (i : ℕ) → Steps bytes i 0x30 (i + 1) → HasAt is_x bytes (i + 1) → o.hexadecimal_numbers ≡ false → NoUnsigned o bytes i
hex_refused o bytes i z x f a r u =
    no_hex (two_marks bytes i z x) x.1 (λ p s g. let both : true ≡ false = sym p ∙ f in cc) u

pub hex_without_digits : (o : Options) (bytes : List ℕ) (i : ℕ) → Steps bytes i 0x30 (i + 1) → HasAt is_x bytes (i + 1) → LacksAt is_hex_digit bytes (i + 2) → NoUnsigned o bytes i
hex_without_digits o bytes i z x n a r u = no_hex (two_marks bytes i z x) x.1 (λ p s g. all_no g n) u

whole_alone : (n : Option ℕ) → EndsWhole n → EndsThere n
whole_alone n h = no_also goes_on (λ c. goes_on c || c == 0x2D || c == 0x5F) (λ c k. or_left _ (c == 0x5F) (or_left (goes_on c) (c == 0x2D) k)) n h

no_bare : {o : Options} {a : Bool} {t r : List ℕ} → IsTrue (no is_digit (next t)) → ((s : List ℕ) → IsAlone (codes "Infinity") t s → ⊥) → ((s : List ℕ) → IsAlone (codes "NaN") t s → ⊥) → (IsTrue o.bare_decimal_points → (u v w : List ℕ) → t ≡ 0x2E ∷ u → AllOf is_digit u v → Exponent v w → ⊥) → Unsigned o a t r → ⊥
no_bare d i n b (Unsigned.hex p q g) = clash true d refl
no_bare {t = t} d i n b (Unsigned.decimal w f z) = no_starts is_digit (next t) d (whole_begins w)
no_bare {r = r} d i n b (Unsigned.bare_point {t = u} {u = v} p x y) = b p u v r refl x y
no_bare {a = true} {r = r} d i n b (Unsigned.infinity p m) = i r (refl, m)
no_bare {a = false} {r = r} d i n b (Unsigned.infinity p m) = i r (refl, whole_alone (next r) m)
no_bare {a = true} {r = r} d i n b (Unsigned.nan p m) = n r (refl, m)
no_bare {a = false} {r = r} d i n b (Unsigned.nan p m) = n r (refl, whole_alone (next r) m)

pub without_point : (o : Options) (bytes : List ℕ) (i : ℕ) → LacksAt is_digit bytes i → LacksAt (λ c. c == 0x2E) bytes i → NoNames bytes i → NoUnsigned o bytes i
without_point o bytes i d p n a r x = no_bare d n.0 n.1 (λ q u v w e k l. clash true (rw e at p) refl) x

pub point_without_digits : (o : Options) (bytes : List ℕ) (i : ℕ) → LacksAt is_digit bytes i → Steps bytes i 0x2E (i + 1) → LacksAt is_digit bytes (i + 1) → NoNames bytes i → NoUnsigned o bytes i
point_without_digits o bytes i d p m n a r x =
    no_bare d n.0 n.1 (λ q u v w e k l. all_no k (rw (tails (sym p.0 ∙ e)) at m)) x

pub point_refused : (o : Options) (bytes : List ℕ) (i : ℕ) → LacksAt is_digit bytes i → o.bare_decimal_points ≡ false → NoNames bytes i → NoUnsigned o bytes i
point_refused o bytes i d f n a r x =
    no_bare d n.0 n.1 (λ q u v w e k l. let both : true ≡ false = sym q ∙ f in cc) x

pub point_without_exponent : (o : Options) (bytes : List ℕ) (i j : ℕ) → LacksAt is_digit bytes i → Steps bytes i 0x2E (i + 1) → Between (AllOf is_digit) bytes (i + 1) j → NoneFrom Exponent bytes j → NoNames bytes i → NoUnsigned o bytes i
point_without_exponent o bytes i j d p g m n a r x =
    no_bare d n.0 n.1 (λ q u v w e k l. m w (rw (all_unique (rw (sym (tails (sym p.0 ∙ e))) at k) g.piece) at l)) x

name_no_digit : (n : Option ℕ) → IsTrue (starts (λ c. c == 0x49 || c == 0x4E) n) → IsTrue (starts is_digit n) → ⊥
name_no_digit None h g = cc
name_no_digit (Some c) h g = grind arith

no_name : {o : Options} {a : Bool} {t r : List ℕ} → IsTrue (starts (λ c. c == 0x49 || c == 0x4E) (next t)) → o.non_finite_numbers ≡ false → Unsigned o a t r → ⊥
no_name h f (Unsigned.hex p q g) = clash true h refl
no_name {t = t} h f (Unsigned.decimal w d z) = name_no_digit (next t) h (whole_begins w)
no_name h f (Unsigned.bare_point p x y) = clash true h refl
no_name h f (Unsigned.infinity p m) = let both : true ≡ false = sym p ∙ f in cc
no_name h f (Unsigned.nan p m) = let both : true ≡ false = sym p ∙ f in cc

pub name_refused : (o : Options) (bytes : List ℕ) (i : ℕ) → IsTrue (starts (λ c. c == 0x49 || c == 0x4E) (next (rest bytes i))) → o.non_finite_numbers ≡ false → NoneFrom (Unsigned o true) bytes i
name_refused o bytes i h f r u = no_name h f u

pub infinity_begins : (bytes : List ℕ) (i j : ℕ) → Between (IsAlone (codes "Infinity")) bytes i j → IsTrue (starts (λ c. c == 0x49 || c == 0x4E) (next (rest bytes i)))
infinity_begins bytes i j n = rw n.piece.0 refl

pub nan_begins : (bytes : List ℕ) (i j : ℕ) → Between (IsAlone (codes "NaN")) bytes i j → IsTrue (starts (λ c. c == 0x49 || c == 0x4E) (next (rest bytes i)))
nan_begins bytes i j n = rw n.piece.0 refl

no_unsigned_sign : {o : Options} {a : Bool} {c : ℕ} {t u r : List ℕ} → t ≡ c ∷ u → IsTrue (is_sign c) → Unsigned o a t r → ⊥
no_unsigned_sign {c = c} e s g = clash (is_sign c) (rw e at (unsigned_begins g)) s

no_minus : {o : Options} {a : Bool} {t u v r : List ℕ} → t ≡ 0x2D ∷ u → ((s : List ℕ) → Unsigned o true u s → ⊥) → Sign o a t v → Unsigned o a v r → ⊥
no_minus e n Sign.none g = no_unsigned_sign e refl g
no_minus {r = r} e n Sign.minus g = n r (rw (tails e) at g)
no_minus e n (Sign.plus p) g = apart refl e

no_plus : {o : Options} {a : Bool} {t u v r : List ℕ} → t ≡ 0x2B ∷ u → (IsTrue o.unary_plus_numbers → (s : List ℕ) → Unsigned o true u s → ⊥) → Sign o a t v → Unsigned o a v r → ⊥
no_plus e n Sign.none g = no_unsigned_sign e refl g
no_plus e n Sign.minus g = apart refl e
no_plus {r = r} e n (Sign.plus p) g = n p r (rw (tails e) at g)

no_sign : {o : Options} {a : Bool} {t v r : List ℕ} → IsTrue (no (λ c. c == 0x2D) (next t)) → IsTrue (no (λ c. c == 0x2B) (next t)) → ((b : Bool) (s : List ℕ) → Unsigned o b t s → ⊥) → Sign o a t v → Unsigned o a v r → ⊥
no_sign {a = a} {r = r} m p n Sign.none g = n a r g
no_sign m p n Sign.minus g = clash true m refl
no_sign m p n (Sign.plus q) g = clash true p refl

pub minus_without_number : (o : Options) (bytes : List ℕ) (i : ℕ) → Steps bytes i 0x2D (i + 1) → NoneFrom (Unsigned o true) bytes (i + 1) → NoneFrom (Number o) bytes i
minus_without_number o bytes i s n r (a, u, x, g) = no_minus s.0 n x g

pub plus_without_number : (o : Options) (bytes : List ℕ) (i : ℕ) → Steps bytes i 0x2B (i + 1) → NoneFrom (Unsigned o true) bytes (i + 1) → NoneFrom (Number o) bytes i
plus_without_number o bytes i s n r (a, u, x, g) = no_plus s.0 (λ p. n) x g

pub plus_refused : (o : Options) (bytes : List ℕ) (i : ℕ) → Steps bytes i 0x2B (i + 1) → o.unary_plus_numbers ≡ false → NoneFrom (Number o) bytes i
plus_refused o bytes i s f r (a, u, x, g) = no_plus s.0 (λ p t k. let both : true ≡ false = sym p ∙ f in cc) x g

pub without_sign : (o : Options) (bytes : List ℕ) (i : ℕ) → LacksAt (λ c. c == 0x2D) bytes i → LacksAt (λ c. c == 0x2B) bytes i → NoUnsigned o bytes i → NoneFrom (Number o) bytes i
without_sign o bytes i m p n r (a, u, x, g) = no_sign m p n x g
