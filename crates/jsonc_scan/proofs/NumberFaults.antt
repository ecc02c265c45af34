-- What each fault of a number says is true.
use Rattle.std.proofs.Common.{inl, inr, ℕ, ◌+◌, ◌<◌, ◌≤◌, ◌≡◌, ◌∙◌, sym, ap, refl, subst, Bool, true, false, not, List, [], ◌∷◌, Option, Some, None, IsTrue, arith, ◌==◌, ◌||◌, ◌&&◌, Result, Ok, Err, IfErr}
use Rattle.std.specs.Result.{IsErrAnd}
use Rattle.jsonc_text.specs.declared.errors.ParseError.{ParseError}
use Rattle.jsonc_text.specs.declared.errors.ParseErrorKind.{ParseErrorKind}
use Rattle.jsonc_text.specs.declared.errors.ParseErrorKind.TheVariants as kind
use Rattle.jsonc_text.specs.Chars.{Steps}
use Rattle.jsonc_text.specs.Faults.{kind_of, range_of}
use Rattle.jsonc_text.specs.Numbers.{Sign, Whole, Fraction, Exponent, is_x, is_e, is_sign}
use Rattle.jsonc_text.specs.Options.{Options}
use Rattle.jsonc_text.specs.Text.{rest, next, no, starts, AllOf, all_of, is_digit, is_hex_digit}
use Rattle.jsonc_text.specs.string.Between.{Between, Reaches, LacksAt, NoneFrom}
use Rattle.jsonc_scan.specs.Between.{HasAt}
use Rattle.jsonc_scan.specs.Reads.{NoNames}
use Rattle.jsonc_scan.specs.Refusals.{IsFaultError, IsFaultOfNext, IsExponentFault, LacksFraction, PassesSign, unsigned, signed}
use Rattle.jsonc_scan.specs.Faults as t
use Rattle.jsonc_scan.specs.Faults.{IsNext, IsName, LexemeFault, IsTrueOf, BreaksExponent, Mantissa, BarePoint, GoesOnNoNumber, begins_digits}
use Rattle.jsonc_text.proofs.Basics.{clash}
use Rattle.jsonc_text.proofs.UniqueGaps.{all_starts}
use Rattle.jsonc_text.proofs.UniqueNumbers.{all_no}

-- what is true of the error
pub err_of : {X E : Type 0} (P : E → Type 0) (e : E) (r : Result X E) → IsErrAnd r (λ y. y ≡ e) → P e → IfErr r P
err_of P e (Ok x) h p = tt
err_of P e (Err y) h p = subst P (sym h) p

-- the next character, by the places before and after it
pub next_told : (bytes : List ℕ) (i j : ℕ) → (rest bytes i ≡ [] → j ≡ i) → ((c : ℕ) (r : List ℕ) → rest bytes i ≡ c ∷ r → Steps bytes i c j) → IsNext (rest bytes i) (rest bytes j)
next_told bytes i j none some = go (rest bytes i) refl
  where
    go : (t : List ℕ) → rest bytes i ≡ t → IsNext (rest bytes i) (rest bytes j)
    go [] e = rw (none e, e) t.at_end
    go (c ∷ r) e = let s = some c r e in rw s.0 t.next_one

pub no_either : (p q : ℕ → Bool) (n : Option ℕ) → IsTrue (no p n) → IsTrue (no q n) → IsTrue (no (λ c. p c || q c) n)
no_either p q None g h = refl
no_either p q (Some c) g h = go (p c) (q c) g h
  where
    go : (a b : Bool) → IsTrue (not a) → IsTrue (not b) → IsTrue (not (a || b))
    go true b g h = g
    go false b g h = h

pub no_left : (p q : ℕ → Bool) (n : Option ℕ) → IsTrue (no (λ c. p c || q c) n) → IsTrue (no p n)
no_left p q None h = refl
no_left p q (Some c) h = go (p c) (q c) h
  where
    go : (a b : Bool) → IsTrue (not (a || b)) → IsTrue (not a)
    go true b h = h
    go false b h = refl

pub no_right : (p q : ℕ → Bool) (n : Option ℕ) → IsTrue (no (λ c. p c || q c) n) → IsTrue (no q n)
no_right p q None h = refl
no_right p q (Some c) h = go (p c) (q c) h
  where
    go : (a b : Bool) → IsTrue (not (a || b)) → IsTrue (not b)
    go true b h = cc
    go false b h = h

sign_no_digit : (c : ℕ) → IsTrue (is_sign c) → IsTrue (is_digit c) → ⊥
sign_no_digit c g h = grind arith

-- where an exponent breaks off there is none
pub broken : {k : ParseErrorKind} {v t r : List ℕ} → BreaksExponent k v t → Exponent v r → ⊥
broken (t.after_sign {e = e} p q n) (Exponent.none m) = clash (is_e e) m p
broken (t.after_sign {c = c} p q n) (Exponent.digits a (all_of h g m)) = sign_no_digit c q h
broken (t.after_sign p q n) (Exponent.signed a b g) = all_no g n
broken (t.after_e {e = e} p n) (Exponent.none m) = clash (is_e e) m p
broken (t.after_e {t = t} p n) (Exponent.digits a g) = all_no g (no_right is_sign is_digit (next t) n)
broken (t.after_e p n) (Exponent.signed {s = s} a b g) = clash (is_sign s) (no_left is_sign is_digit (Some s) n) b

pub broken_after_sign : (bytes : List ℕ) (i : ℕ) → HasAt is_e bytes i → HasAt is_sign bytes (i + 1) → LacksAt is_digit bytes (i + 2) → BreaksExponent kind.ExpectedDigit (rest bytes i) (rest bytes (i + 2))
broken_after_sign bytes i e s n =
    let two : (i + 1) + 1 ≡ i + 2 = omega arith in
    let sign : rest bytes (i + 1) ≡ s.0 ∷ rest bytes (i + 2) = s.2.0 ∙ ap (λ k. s.0 ∷ rest bytes k) two in
    rw (e.2.0, sign) (t.after_sign e.1 s.1 n)

pub broken_after_e : (bytes : List ℕ) (i : ℕ) → HasAt is_e bytes i → LacksAt is_sign bytes (i + 1) → LacksAt is_digit bytes (i + 1) → BreaksExponent kind.ExpectedPlusMinusOrDigitInNumberLiteral (rest bytes i) (rest bytes (i + 1))
broken_after_e bytes i e s n = rw e.2.0 (t.after_e e.1 (no_either is_sign is_digit (next (rest bytes (i + 1))) s n))

pub exponent_told : (bytes : List ℕ) (i j : ℕ) (k : ParseErrorKind) (e : ParseError) → BreaksExponent k (rest bytes i) (rest bytes j) → kind_of e ≡ k → IsFaultOfNext bytes j e → IsExponentFault bytes i e
exponent_told bytes i j k e b h n = record { breaks = rw (h, n.start) b; character = rw n.start n.character }

pub no_broken_exponent : (bytes : List ℕ) (i : ℕ) {k : ParseErrorKind} {t : List ℕ} → BreaksExponent k (rest bytes i) t → NoneFrom Exponent bytes i
no_broken_exponent bytes i b r x = broken b x

-- the sign of a number, if any, and what follows it
sign_of : {o : Options} {bytes : List ℕ} {number start : ℕ} → PassesSign o bytes number start → (signed : Bool) × Sign o signed (rest bytes number) (rest bytes start)
sign_of (unsigned e h) = (false, rw e Sign.none)
sign_of (signed l s) = (true, s)

pub told_from : (o : Options) (bytes : List ℕ) (i j k : ℕ) (what : ParseErrorKind) (e : ParseError) → IsFaultError j k what e → LexemeFault o what (rest bytes i) (rest bytes j) (rest bytes k) → IsTrueOf o bytes i e
told_from o bytes i j k what e h x = rw (h.kind, h.start, h.end) x

pub told_next : (o : Options) (bytes : List ℕ) (i j : ℕ) (what : ParseErrorKind) (e : ParseError) → kind_of e ≡ what → IsFaultOfNext bytes j e → (IsNext (rest bytes j) (rest bytes (range_of e).end) → LexemeFault o what (rest bytes i) (rest bytes j) (rest bytes (range_of e).end)) → IsTrueOf o bytes i e
told_next o bytes i j what e k h f = rw (k, h.start) (f h.character)

-- a point after digits, and no digit after it
pub fraction_told : (o : Options) (bytes : List ℕ) (number start whole : ℕ) (e : ParseError) → Between Whole bytes start whole → LacksFraction o bytes whole → IsFaultError number (whole + 1) kind.BareDecimalPointNumbersNotAllowed e → PassesSign o bytes number start → IsTrueOf o bytes number e
fraction_told o bytes number start whole e w l h s =
    told_from o bytes number number (whole + 1) _ e h (t.bare_point l.off (t.trailing (sign_of s).1 (rw l.point.0 at w.piece) l.digits))

-- an exponent after the digits of a number
exponent_true : (o : Options) (bytes : List ℕ) (number start digits : ℕ) (e : ParseError) → Mantissa o (rest bytes start) (rest bytes digits) → IsExponentFault bytes digits e → PassesSign o bytes number start → IsTrueOf o bytes number e
exponent_true o bytes number start digits e m h s = t.exponent (sign_of s).1 m h.breaks h.character

pub decimal_exponent_told : (o : Options) (bytes : List ℕ) (number start whole digits : ℕ) (e : ParseError) → Between Whole bytes start whole → Reaches (Fraction o) bytes whole digits → IsExponentFault bytes digits e → PassesSign o bytes number start → IsTrueOf o bytes number e
decimal_exponent_told o bytes number start whole digits e w f h s =
    exponent_true o bytes number start digits e (t.mantissa w.piece f.piece) h s

pub bare_exponent_told : (o : Options) (bytes : List ℕ) (number start digits : ℕ) (e : ParseError) → IsTrue o.bare_decimal_points → Steps bytes start 0x2E (start + 1) → Between (AllOf is_digit) bytes (start + 1) digits → IsExponentFault bytes digits e → PassesSign o bytes number start → IsTrueOf o bytes number e
bare_exponent_told o bytes number start digits e a p d h s =
    exponent_true o bytes number start digits e (rw p.0 (t.bare_mantissa a d.piece)) h s

-- `0x`, refused or without digits
pub hexadecimal_told : (o : Options) (bytes : List ℕ) (number start : ℕ) (e : ParseError) → o.hexadecimal_numbers ≡ false → Steps bytes start 0x30 (start + 1) → HasAt is_x bytes (start + 1) → IsFaultError number (start + 1) kind.HexadecimalNumbersNotAllowed e → PassesSign o bytes number start → IsTrueOf o bytes number e
hexadecimal_told o bytes number start e f z x h s =
    let after : IsTrue (starts is_x (next (rest bytes (start + 1)))) = rw x.2.0 x.1 in
    told_from o bytes number number (start + 1) _ e h (t.hexadecimal f (rw z.0 at (sign_of s).1) after)

pub hex_digits_told : (o : Options) (bytes : List ℕ) (number start : ℕ) (e : ParseError) → IsTrue o.hexadecimal_numbers → Steps bytes start 0x30 (start + 1) → HasAt is_x bytes (start + 1) → LacksAt is_hex_digit bytes (start + 2) → kind_of e ≡ kind.ExpectedDigit → IsFaultOfNext bytes (start + 2) e → PassesSign o bytes number start → IsTrueOf o bytes number e
hex_digits_told o bytes number start e a z x n k h s =
    let two : (start + 1) + 1 ≡ start + 2 = omega arith in
    let mark : rest bytes start ≡ 0x30 ∷ x.0 ∷ rest bytes (start + 2) = z.0 ∙ ap (λ t. 0x30 ∷ t) (x.2.0 ∙ ap (λ k. x.0 ∷ rest bytes k) two) in
    told_next o bytes number (start + 2) _ e k h (λ c. t.hex_digits a (rw mark at (sign_of s).1) x.1 n c)

pub not_starts : (p : ℕ → Bool) (n : Option ℕ) → IsTrue (no p n) → IsTrue (not (starts p n))
not_starts p None h = refl
not_starts p (Some c) h = h

pub no_digits : (bytes : List ℕ) (i : ℕ) → LacksAt is_digit bytes i → LacksAt (λ c. c == 0x2E) bytes i → IsTrue (not (begins_digits (rest bytes i)))
no_digits bytes i d p = go (rest bytes i) d p
  where
    both : (a b x : Bool) → IsTrue (not a) → IsTrue (not b) → IsTrue (not (a || (b && x)))
    both true b x g h = g
    both false true x g h = cc
    both false false x g h = refl

    go : (t : List ℕ) → IsTrue (no is_digit (next t)) → IsTrue (no (λ c. c == 0x2E) (next t)) → IsTrue (not (begins_digits t))
    go [] d p = refl
    go (c ∷ t) d p = both (is_digit c) (c == 0x2E) (starts is_digit (next t)) d p

pub no_digits_after_point : (bytes : List ℕ) (i : ℕ) → Steps bytes i 0x2E (i + 1) → LacksAt is_digit bytes (i + 1) → IsTrue (not (begins_digits (rest bytes i)))
no_digits_after_point bytes i p d = rw p.0 (not_starts is_digit (next (rest bytes (i + 1))) d)

-- neither name, as one
no_name_here : (bytes : List ℕ) (i : ℕ) → NoNames bytes i → (r : List ℕ) → IsName (rest bytes i) r → ⊥
no_name_here bytes i n r (inl x) = n.0 r x
no_name_here bytes i n r (inr x) = n.1 r x

-- after the sign no number goes on
pub sign_told : (o : Options) (bytes : List ℕ) (number start : ℕ) (e : ParseError) → IsTrue (not (begins_digits (rest bytes start))) → kind_of e ≡ kind.ExpectedDigitFollowingNegativeSign → IsFaultOfNext bytes start e → PassesSign o bytes number start → NoNames bytes start → IsTrueOf o bytes number e
sign_told o bytes number start e d k h (unsigned p b) n = absurd (clash (begins_digits (rest bytes start)) d b)
sign_told o bytes number start e d k h (signed l s) n =
    told_next o bytes number start _ e k h (λ c. t.lone_sign s (record { digits = d; name = no_name_here bytes start n }) c)

-- a point before digits, after the sign or alone
pub signed_point_told : (o : Options) (bytes : List ℕ) (number start digits : ℕ) (e : ParseError) → o.bare_decimal_points ≡ false → number < start → Steps bytes start 0x2E (start + 1) → Between (AllOf is_digit) bytes (start + 1) digits → IsFaultError number start kind.BareDecimalPointNumbersNotAllowed e → PassesSign o bytes number start → IsTrueOf o bytes number e
signed_point_told o bytes number start digits e f l p d h (unsigned q b) = absurd (omega arith)
signed_point_told o bytes number start digits e f l p d h (signed m s) =
    told_from o bytes number number start _ e h (rw p.0 (t.bare_point f (t.signed_leading (rw p.0 at s) (all_starts d.piece))))

pub next_of : {c : ℕ} {u r : List ℕ} → IsNext (c ∷ u) r → r ≡ u
next_of t.next_one = refl

point_tells : {o : Options} {s u r : List ℕ} → s ≡ 0x2E ∷ u → o.bare_decimal_points ≡ false → IsTrue (starts is_digit (next u)) → IsNext s r → LexemeFault o kind.BareDecimalPointNumbersNotAllowed s s r
point_tells e f d n = rw (e, next_of (rw e at n)) (t.bare_point f (t.leading d))

pub point_told : (o : Options) (bytes : List ℕ) (number start digits : ℕ) (e : ParseError) → o.bare_decimal_points ≡ false → start ≤ number → Steps bytes start 0x2E (start + 1) → Between (AllOf is_digit) bytes (start + 1) digits → kind_of e ≡ kind.BareDecimalPointNumbersNotAllowed → IsFaultOfNext bytes start e → PassesSign o bytes number start → IsTrueOf o bytes number e
point_told o bytes number start digits e f l p d k h (signed m s) = absurd (omega arith)
point_told o bytes number start digits e f l p d k h (unsigned q b) =
    told_next o bytes number start _ e k h (λ c. rw q (point_tells p.0 f (all_starts d.piece) c))

-- a name where none is allowed
pub name_told : (o : Options) (bytes : List ℕ) (sign end : ℕ) (e : ParseError) → o.non_finite_numbers ≡ false → IsName (rest bytes (sign + 1)) (rest bytes end) → IsFaultError sign end kind.NonFiniteNumbersNotAllowed e → Sign o true (rest bytes sign) (rest bytes (sign + 1)) → IsTrueOf o bytes sign e
name_told o bytes sign end e f n h s = told_from o bytes sign sign end _ e h (t.non_finite f s n)

-- a `+` where none is allowed
pub plus_told : (o : Options) (bytes : List ℕ) (start : ℕ) (e : ParseError) → o.unary_plus_numbers ≡ false → Steps bytes start 0x2B (start + 1) → IsFaultError start (start + 1) kind.UnaryPlusNumbersNotAllowed e → IsTrueOf o bytes start e
plus_told o bytes start e f p h = told_from o bytes start start (start + 1) _ e h (rw p.0 (t.unary_plus f))

pub minus_sign : (o : Options) (bytes : List ℕ) (i : ℕ) → Steps bytes i 0x2D (i + 1) → Sign o true (rest bytes i) (rest bytes (i + 1))
minus_sign o bytes i m = rw m.0 Sign.minus

pub plus_sign : (o : Options) (bytes : List ℕ) (i : ℕ) → IsTrue o.unary_plus_numbers → Steps bytes i 0x2B (i + 1) → Sign o true (rest bytes i) (rest bytes (i + 1))
plus_sign o bytes i a p = rw p.0 (Sign.plus a)
