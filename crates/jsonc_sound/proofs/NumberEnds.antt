-- What follows a number may be replaced by another text before which a number ends alike.
use Rattle.std.proofs.Common.{ℕ, ◌≡◌, sym, ap, subst, refl, Bool, true, false, List, [], ◌∷◌, ◌++◌, IsTrue, codes}
use Rattle.jsonc_text.specs.Options.{Options, all_on}
use Rattle.jsonc_text.specs.Text.{next, no, end_or, Many, stop, step, AllOf, all_of, is_digit}
use Rattle.jsonc_text.specs.Words.{goes_on}
use Rattle.jsonc_text.specs.Numbers.{Sign, Whole, Fraction, Exponent, Unsigned, Number, MayFollow, EndsName, is_x, is_e, is_point}
use Rattle.jsonc_text.proofs.Basics.{Apart, front_same}
use Rattle.jsonc_sound.specs.Followers.{EndsLiterals}
use Rattle.jsonc_sound.proofs.Characters.{ends_names, text_ends_names, x_apart, e_apart, point_apart, digit_apart, hex_digit_apart, goes_on_apart, whole_apart, fails_there}

-- where a part may end before r, it may end before z
abbrev pub EndsAlike : List ℕ → List ℕ → Type 0
EndsAlike r z = (p : ℕ → Bool) → Apart p ends_names → IsTrue (no p (next r)) → IsTrue (no p (next z))

pub alike_next : (r z : List ℕ) → next r ≡ next z → EndsAlike r z
alike_next r z e p a n = subst (λ m. IsTrue (no p m)) e n

pub alike_ends : (r z : List ℕ) → EndsLiterals z → EndsAlike r z
alike_ends r z h p a n = fails_there p a (next z) (text_ends_names (next z) h)

-- the text begins with a character that ends names, or is empty
abbrev pub EndsNames : List ℕ → Type 0
EndsNames r = IsTrue (end_or ends_names (next r))

pub alike_names : (r z : List ℕ) → EndsNames z → EndsAlike r z
alike_names r z h p a n = fails_there p a (next z) h

-- what stands at the front of t, before x and r, with z in place of r
record Swapped (R : List ℕ → List ℕ → Type 0) (t x r z : List ℕ) : Type 0 where
  text : List ℕ
  split : t ≡ text ++ r
  here : R (text ++ z) (x ++ z)

module _ (r z : List ℕ) (alike : EndsAlike r z) where
  no_swapped : (p : ℕ → Bool) → Apart p ends_names → (x : List ℕ) {u : List ℕ} → u ≡ x ++ r → IsTrue (no p (next u)) → IsTrue (no p (next (x ++ z)))
  no_swapped p a [] e n = alike p a (rw e at n)
  no_swapped p a (c ∷ x) e n = rw e at n

  one_more : {R S : List ℕ → List ℕ → Type 0} {t x : List ℕ} (c : ℕ) → ((a : List ℕ) → R a (x ++ z) → S (c ∷ a) (x ++ z)) → Swapped R t x r z → Swapped S (c ∷ t) x r z
  one_more c f k = record { text = c ∷ k.text; split = ap (λ y. c ∷ y) k.split; here = f (k.text ++ z) k.here }

  many_swapped : {p : ℕ → Bool} {t u : List ℕ} (x : List ℕ) → Many p t u → u ≡ x ++ r → Swapped (Many p) t x r z
  many_swapped x stop e = record { text = x; split = e; here = stop }
  many_swapped x (step {c = c} h g) e = one_more c (λ a k. step h k) (many_swapped x g e)

  all_swapped : {p : ℕ → Bool} {t u : List ℕ} → Apart p ends_names → (x : List ℕ) → AllOf p t u → u ≡ x ++ r → Swapped (AllOf p) t x r z
  all_swapped {p} a x (all_of {c = c} h g n) e = one_more c (λ b k. all_of h k (no_swapped p a x e n)) (many_swapped x g e)

  sign_swapped : {o : Options} {b : Bool} {t u : List ℕ} (x : List ℕ) → Sign o b t u → u ≡ x ++ r → Swapped (Sign o b) t x r z
  sign_swapped x Sign.none e = record { text = x; split = e; here = Sign.none }
  sign_swapped x Sign.minus e = record { text = 0x2D ∷ x; split = ap (λ y. 0x2D ∷ y) e; here = Sign.minus }
  sign_swapped x (Sign.plus p) e = record { text = 0x2B ∷ x; split = ap (λ y. 0x2B ∷ y) e; here = Sign.plus p }

  whole_swapped : {t u : List ℕ} (x : List ℕ) → Whole t u → u ≡ x ++ r → Swapped Whole t x r z
  whole_swapped x (Whole.zero n) e = record { text = 0x30 ∷ x; split = ap (λ y. 0x30 ∷ y) e; here = Whole.zero (no_swapped is_x x_apart x e n) }
  whole_swapped x (Whole.digits {c = c} h g n) e = one_more c (λ a k. Whole.digits h k (no_swapped is_digit digit_apart x e n)) (many_swapped x g e)

  fraction_swapped : {o : Options} {t u : List ℕ} (x : List ℕ) → Fraction o t u → u ≡ x ++ r → Swapped (Fraction o) t x r z
  fraction_swapped x (Fraction.none n) e = record { text = x; split = e; here = Fraction.none (no_swapped is_point point_apart x e n) }
  fraction_swapped x (Fraction.point g) e = one_more 0x2E (λ a k. Fraction.point k) (all_swapped digit_apart x g e)
  fraction_swapped x (Fraction.bare_point p n) e = record { text = 0x2E ∷ x; split = ap (λ y. 0x2E ∷ y) e; here = Fraction.bare_point p (no_swapped is_digit digit_apart x e n) }

  exponent_swapped : {t u : List ℕ} (x : List ℕ) → Exponent t u → u ≡ x ++ r → Swapped Exponent t x r z
  exponent_swapped x (Exponent.none n) e = record { text = x; split = e; here = Exponent.none (no_swapped is_e e_apart x e n) }
  exponent_swapped x (Exponent.digits {e = c} h g) e = one_more c (λ a k. Exponent.digits h k) (all_swapped digit_apart x g e)
  exponent_swapped x (Exponent.signed {e = c} {s = s} h k g) e =
      one_more {R = λ a b. Exponent (c ∷ a) b} c (λ a y. y) (one_more s (λ a y. Exponent.signed h k y) (all_swapped digit_apart x g e))

  name_swapped : (b : Bool) (x : List ℕ) {u : List ℕ} → EndsName b (next u) → u ≡ x ++ r → EndsName b (next (x ++ z))
  name_swapped true x n e = no_swapped goes_on goes_on_apart x e n
  name_swapped false x n e = no_swapped _ whole_apart x e n

  unsigned_swapped : {o : Options} {b : Bool} {t u : List ℕ} (x : List ℕ) → Unsigned o b t u → u ≡ x ++ r → Swapped (Unsigned o b) t x r z
  unsigned_swapped {o} {b} x (Unsigned.hex {x = c} p q g) e =
      one_more {R = λ a y. Unsigned o b (0x30 ∷ a) y} 0x30 (λ a k. k) (one_more c (λ a k. Unsigned.hex p q k) (all_swapped hex_digit_apart x g e))
  unsigned_swapped x (Unsigned.decimal w f n) e =
      let k = exponent_swapped x n e in
      let l = fraction_swapped k.text f k.split in
      let m = whole_swapped l.text w l.split in
      record { text = m.text; split = m.split; here = Unsigned.decimal m.here l.here k.here }
  unsigned_swapped x (Unsigned.bare_point p g n) e =
      let k = exponent_swapped x n e in
      let l = all_swapped digit_apart k.text g k.split in
      record { text = 0x2E ∷ l.text; split = ap (λ y. 0x2E ∷ y) l.split; here = Unsigned.bare_point p l.here k.here }
  unsigned_swapped {b = b} x (Unsigned.infinity p n) e = record { text = codes "Infinity" ++ x; split = ap (λ y. codes "Infinity" ++ y) e; here = Unsigned.infinity p (name_swapped b x n e) }
  unsigned_swapped {b = b} x (Unsigned.nan p n) e = record { text = codes "NaN" ++ x; split = ap (λ y. codes "NaN" ++ y) e; here = Unsigned.nan p (name_swapped b x n e) }

  pub may_follow_swapped : (s : List ℕ) → MayFollow s r → MayFollow s z
  may_follow_swapped s (b, u, g, n) =
      let k = unsigned_swapped [] n refl in
      let l = sign_swapped k.text g k.split in
      let same : l.text ≡ s = front_same refl (sym l.split) in
      subst (λ t. Number all_on (t ++ z) z) same (b, k.text ++ z, l.here, k.here)
