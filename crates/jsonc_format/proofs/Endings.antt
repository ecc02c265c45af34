-- Numbers and keywords end before a space, the end of a line, a comma, a colon and a closing bracket.
use Rattle.std.proofs.Common.{ℕ, ◌≡◌, sym, subst, refl, Bool, true, false, not, ◌||◌, ◌==◌, nat_lt, List, [], ◌∷◌, ◌++◌, IsTrue}
use Rattle.jsonc_text.specs.Options.{all_on}
use Rattle.jsonc_text.specs.Text.{next, no, AllOf, all_of, is_digit, is_hex_digit}
use Rattle.jsonc_text.specs.Letters.{is_wide_letter}
use Rattle.jsonc_text.specs.Words.{goes_on}
use Rattle.jsonc_text.specs.Numbers.{Sign, Whole, Fraction, Exponent, Unsigned, MayFollow, EndsName, is_x, is_e, is_point}
use Rattle.jsonc_text.proofs.Basics.{test_eq}
use Rattle.jsonc_text.proofs.NumberFrames.{number_whole}
use Rattle.jsonc_text.proofs.UniqueWords.{many_more}
use Rattle.jsonc_format.proofs.Apart.{parts, Parts, EndLiterals}

-- what holds of each of these characters
one_of : (P : ℕ → Type 0) → P 0x20 → P 0x0A → P 0x0D → P 0x2C → P 0x3A → P 0x5D → P 0x7D → (c : ℕ) → IsTrue (parts c) → P c
one_of P a b d e f g i c h =
    each (c == 0x20) (c == 0x0A) (c == 0x0D) (c == 0x2C) (c == 0x3A) (c == 0x5D) (c == 0x7D) h
    (λ k. at 0x20 k a) (λ k. at 0x0A k b) (λ k. at 0x0D k d) (λ k. at 0x2C k e) (λ k. at 0x3A k f) (λ k. at 0x5D k g) (λ k. at 0x7D k i)
  where
    at : (d : ℕ) → (c == d) ≡ true → P d → P c
    at d k x = subst P (sym (test_eq c d k)) x

    each : (a b d e f g i : Bool) → IsTrue (a || b || d || e || f || g || i) → (a ≡ true → P c) → (b ≡ true → P c) → (d ≡ true → P c) → (e ≡ true → P c) → (f ≡ true → P c) → (g ≡ true → P c) → (i ≡ true → P c) → P c
    each true b d e f g i h j k l m n o p = j refl
    each false true d e f g i h j k l m n o p = k refl
    each false false true e f g i h j k l m n o p = l refl
    each false false false true f g i h j k l m n o p = m refl
    each false false false false true g i h j k l m n o p = n refl
    each false false false false false true i h j k l m n o p = o refl
    each false false false false false false true h j k l m n o p = p refl
    each false false false false false false false h j k l m n o p = cc

fails_first : (p : ℕ → Bool) → ((c : ℕ) → IsTrue (parts c) → IsTrue (not (p c))) → (r : List ℕ) → Parts r → IsTrue (no p (next r))
fails_first p f [] h = cc
fails_first p f (c ∷ r) h = f c h

narrow : (c : ℕ) → nat_lt 0x7F c ≡ false → is_wide_letter c ≡ false
unfolding is_wide_letter
narrow c h = rw h refl

no_x : (c : ℕ) → IsTrue (parts c) → IsTrue (not (is_x c))
no_x = one_of (λ c. IsTrue (not (is_x c))) refl refl refl refl refl refl refl

no_e : (c : ℕ) → IsTrue (parts c) → IsTrue (not (is_e c))
no_e = one_of (λ c. IsTrue (not (is_e c))) refl refl refl refl refl refl refl

no_point : (c : ℕ) → IsTrue (parts c) → IsTrue (not (is_point c))
no_point = one_of (λ c. IsTrue (not (is_point c))) refl refl refl refl refl refl refl

no_digit : (c : ℕ) → IsTrue (parts c) → IsTrue (not (is_digit c))
no_digit = one_of (λ c. IsTrue (not (is_digit c))) refl refl refl refl refl refl refl

no_hex_digit : (c : ℕ) → IsTrue (parts c) → IsTrue (not (is_hex_digit c))
no_hex_digit = one_of (λ c. IsTrue (not (is_hex_digit c))) refl refl refl refl refl refl refl

no_going_on : (c : ℕ) → IsTrue (parts c) → IsTrue (not (goes_on c))
no_going_on =
    one_of (λ c. IsTrue (not (goes_on c))) (rw (narrow 0x20 refl) refl) (rw (narrow 0x0A refl) refl) (rw (narrow 0x0D refl) refl) (rw (narrow 0x2C refl) refl) (rw (narrow 0x3A refl) refl)
    (rw (narrow 0x5D refl) refl) (rw (narrow 0x7D refl) refl)

abbrev whole_on : ℕ → Bool
whole_on c = goes_on c || c == 0x2D || c == 0x5F

no_whole_on : (c : ℕ) → IsTrue (parts c) → IsTrue (not (whole_on c))
no_whole_on =
    one_of (λ c. IsTrue (not (whole_on c))) (rw (narrow 0x20 refl) refl) (rw (narrow 0x0A refl) refl) (rw (narrow 0x0D refl) refl) (rw (narrow 0x2C refl) refl) (rw (narrow 0x3A refl) refl)
    (rw (narrow 0x5D refl) refl) (rw (narrow 0x7D refl) refl)

module _ (r : List ℕ) (parted : Parts r) where
  end_more : (p : ℕ → Bool) → ((c : ℕ) → IsTrue (parts c) → IsTrue (not (p c))) → (x : List ℕ) → IsTrue (no p (next x)) → IsTrue (no p (next (x ++ r)))
  end_more p f [] h = fails_first p f r parted
  end_more p f (c ∷ x) h = h

  all_more : (p : ℕ → Bool) → ((c : ℕ) → IsTrue (parts c) → IsTrue (not (p c))) → {t u : List ℕ} → AllOf p t u → AllOf p (t ++ r) (u ++ r)
  all_more p f (all_of {r = u} h g k) = all_of h (many_more g r) (end_more p f u k)

  sign_more : {b : Bool} {t u : List ℕ} → Sign all_on b t u → Sign all_on b (t ++ r) (u ++ r)
  sign_more Sign.none = Sign.none
  sign_more Sign.minus = Sign.minus
  sign_more (Sign.plus p) = Sign.plus p

  whole_more : {t u : List ℕ} → Whole t u → Whole (t ++ r) (u ++ r)
  whole_more (Whole.zero {r = u} n) = Whole.zero (end_more is_x no_x u n)
  whole_more (Whole.digits {r = u} h g n) = Whole.digits h (many_more g r) (end_more is_digit no_digit u n)

  fraction_more : {t u : List ℕ} → Fraction all_on t u → Fraction all_on (t ++ r) (u ++ r)
  fraction_more (Fraction.none {r = u} n) = Fraction.none (end_more is_point no_point u n)
  fraction_more (Fraction.point g) = Fraction.point (all_more is_digit no_digit g)
  fraction_more (Fraction.bare_point {r = u} p n) = Fraction.bare_point p (end_more is_digit no_digit u n)

  exponent_more : {t u : List ℕ} → Exponent t u → Exponent (t ++ r) (u ++ r)
  exponent_more (Exponent.none {r = u} n) = Exponent.none (end_more is_e no_e u n)
  exponent_more (Exponent.digits h g) = Exponent.digits h (all_more is_digit no_digit g)
  exponent_more (Exponent.signed h k g) = Exponent.signed h k (all_more is_digit no_digit g)

  name_more : (b : Bool) (u : List ℕ) → EndsName b (next u) → EndsName b (next (u ++ r))
  name_more true u n = end_more goes_on no_going_on u n
  name_more false u n = end_more whole_on no_whole_on u n

  unsigned_more : (b : Bool) {t u : List ℕ} → Unsigned all_on b t u → Unsigned all_on b (t ++ r) (u ++ r)
  unsigned_more b (Unsigned.hex p q g) = Unsigned.hex p q (all_more is_hex_digit no_hex_digit g)
  unsigned_more b (Unsigned.decimal w f e) = Unsigned.decimal (whole_more w) (fraction_more f) (exponent_more e)
  unsigned_more b (Unsigned.bare_point p g e) = Unsigned.bare_point p (all_more is_digit no_digit g) (exponent_more e)
  unsigned_more b (Unsigned.infinity {r = u} p n) = Unsigned.infinity p (name_more b u n)
  unsigned_more b (Unsigned.nan {r = u} p n) = Unsigned.nan p (name_more b u n)

  number_more : (s u : List ℕ) → MayFollow s u → MayFollow s r
  number_more s u m = let w = number_whole {o = all_on} s u m in (w.0, w.1 ++ r, sign_more w.2, unsigned_more w.0 w.3)

pub end_literals : EndLiterals
end_literals s u r p = (λ n m. number_more r p s u m, λ k h. fails_first goes_on no_going_on r p)
