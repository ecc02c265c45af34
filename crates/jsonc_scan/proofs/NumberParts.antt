-- Parts of numbers between two places of a text.
use Rattle.std.proofs.Common.{ℕ, ◌+◌, ◌<◌, ◌≤◌, ◌≡◌, ◌∙◌, ap, refl, List, ◌∷◌, length, get_or, arith, IsUtf8, IsTrue, Bool, true, false, not, IsCharBoundary, ◌==◌, ◌||◌, codes, Result, Ok, Err, IfOk}
use Rattle.std.specs.Int.{is_in_range}
use Rattle.jsonc_text.specs.Options.{Options}
use Rattle.jsonc_text.specs.Text.{rest, next, no, Many, AllOf, all_of, is_digit, is_hex_digit}
use Rattle.jsonc_text.specs.Chars.{Steps}
use Rattle.jsonc_text.specs.string.Between.{Between, Reaches, LacksAt}
use Rattle.jsonc_scan.specs.Between.{HasAt, IsAlone}
use Rattle.jsonc_text.specs.Numbers.{Sign, Whole, Fraction, Exponent, Unsigned, Number, is_x, is_e, is_sign, is_point}
use Rattle.jsonc_text.specs.Runs.{RunsTo}
use Rattle.jsonc_text.proofs.Ascii.{OnlyAscii, digit_small}
use Rattle.jsonc_text.proofs.CharRuns.{small_run}
use Rattle.jsonc_text.proofs.Basics.{clash}
use Rattle.jsonc_text.proofs.CharacterSteps.{steps_ascii}

pub has_at : (p : ℕ → Bool) → OnlyAscii p → (bytes : List ℕ) (i : ℕ) → IsUtf8 bytes → i < length bytes → IsTrue (p (get_or bytes i 0)) → HasAt p bytes i
has_at p small bytes i u l h = (get_or bytes i 0, h, steps_ascii bytes i u l (small (get_or bytes i 0) h))

pub either_small : (b d : ℕ) → b < 128 → d < 128 → OnlyAscii (λ c. c == b || c == d)
either_small b d h k c e = grind arith

pub some_found : (p : ℕ → Bool) (bytes : List ℕ) (i j : ℕ) → HasAt p bytes i → IsCharBoundary bytes j → i + 1 ≤ j → Many p (rest bytes (i + 1)) (rest bytes j) → LacksAt p bytes j → Between (AllOf p) bytes i j
some_found p bytes i j h b l m n = record { boundary = b; order = omega arith; piece = rw h.2.0 (all_of h.1 m n) }

-- a run of digits that is not empty
pub run_found : (bytes : List ℕ) (i j : ℕ) → IsUtf8 bytes → IsCharBoundary bytes i → RunsTo is_digit bytes i j → (j ≡ i → ⊥) → Between (AllOf is_digit) bytes i j
run_found bytes i j u b run more =
    let long : i < j = omega (arith, run.order, more) in
    let here = has_at is_digit digit_small bytes i u (omega (arith, run.within)) (run.pass i (omega arith) long) in
    let after : RunsTo is_digit bytes (i + 1) j = record { order = omega arith; within = run.within; pass = λ k from to. run.pass k (omega arith) to; stops = run.stops } in
    let others = small_run is_digit bytes (i + 1) j digit_small u here.2.1 after in
    some_found is_digit bytes i j here others.0.boundary after.order others.0.many others.1

pub no_exponent : (bytes : List ℕ) (i : ℕ) → IsCharBoundary bytes i → LacksAt is_e bytes i → Reaches Exponent bytes i i
no_exponent bytes i b n = record { boundary = b; order = omega arith; piece = Exponent.none n }

pub exponent_digits : (bytes : List ℕ) (i j : ℕ) → HasAt is_e bytes i → Between (AllOf is_digit) bytes (i + 1) j → Reaches Exponent bytes i j
exponent_digits bytes i j e d = record { boundary = d.boundary; order = omega (arith, d.order); piece = rw e.2.0 (Exponent.digits e.1 d.piece) }

pub exponent_signed : (bytes : List ℕ) (i j : ℕ) → HasAt is_e bytes i → HasAt is_sign bytes (i + 1) → Between (AllOf is_digit) bytes (i + 2) j → Reaches Exponent bytes i j
exponent_signed bytes i j e s d =
    let two : (i + 1) + 1 ≡ i + 2 = omega arith in
    let sign : rest bytes (i + 1) ≡ s.0 ∷ rest bytes (i + 2) = s.2.0 ∙ ap (λ k. s.0 ∷ rest bytes k) two in
    record { boundary = d.boundary; order = omega (arith, d.order); piece = rw (e.2.0, sign) (Exponent.signed e.1 s.1 d.piece) }

pub no_fraction : (o : Options) (bytes : List ℕ) (i : ℕ) → IsCharBoundary bytes i → LacksAt is_point bytes i → Reaches (Fraction o) bytes i i
no_fraction o bytes i b n = record { boundary = b; order = omega arith; piece = Fraction.none n }

pub fraction_digits : (o : Options) (bytes : List ℕ) (i j : ℕ) → Steps bytes i 0x2E (i + 1) → Between (AllOf is_digit) bytes (i + 1) j → Reaches (Fraction o) bytes i j
fraction_digits o bytes i j e d = record { boundary = d.boundary; order = omega (arith, d.order); piece = rw e.0 (Fraction.point d.piece) }

pub fraction_bare : (o : Options) (bytes : List ℕ) (i : ℕ) → Steps bytes i 0x2E (i + 1) → LacksAt is_digit bytes (i + 1) → IsTrue o.bare_decimal_points → Reaches (Fraction o) bytes i (i + 1)
fraction_bare o bytes i e n a = record { boundary = e.1; order = omega arith; piece = rw e.0 (Fraction.bare_point a n) }

pub zero_whole : (bytes : List ℕ) (i : ℕ) → Steps bytes i 0x30 (i + 1) → LacksAt is_x bytes (i + 1) → Between Whole bytes i (i + 1)
zero_whole bytes i e n = record { boundary = e.1; order = omega arith; piece = rw e.0 (Whole.zero n) }

-- no `0` stands, and so none with an `x` after it
pub no_zero : (bytes : List ℕ) (i : ℕ) → LacksAt (λ c. c == 0x30) bytes i → Steps bytes i 0x30 (i + 1) → LacksAt is_x bytes (i + 1)
no_zero bytes i n e = absurd (clash true (rw e.0 at n) refl)

nonzero : (c : ℕ) → IsTrue (is_digit c) → IsTrue (not (c == 0x30)) → IsTrue (is_in_range 0x31 0x39 c)
nonzero c h n = grind arith

whole_of : {t r : List ℕ} → AllOf is_digit t r → IsTrue (no (λ c. c == 0x30) (next t)) → Whole t r
whole_of (all_of {c = c} h m l) n = Whole.digits (nonzero c h n) m l

pub digits_whole : (bytes : List ℕ) (i j : ℕ) → LacksAt (λ c. c == 0x30) bytes i → Between (AllOf is_digit) bytes i j → Between Whole bytes i j
digits_whole bytes i j n d = record { boundary = d.boundary; order = d.order; piece = whole_of d.piece n }

pub decimal : (o : Options) (bytes : List ℕ) (i j k l : ℕ) → Between Whole bytes i j → Reaches (Fraction o) bytes j k → Reaches Exponent bytes k l → (signed : Bool) → Between (Unsigned o signed) bytes i l
decimal o bytes i j k l w f e signed = record { boundary = e.boundary; order = omega (arith, w.order, f.order, e.order); piece = Unsigned.decimal w.piece f.piece e.piece }

pub bare_decimal : (o : Options) (bytes : List ℕ) (i j k : ℕ) → Steps bytes i 0x2E (i + 1) → Between (AllOf is_digit) bytes (i + 1) j → Reaches Exponent bytes j k → IsTrue o.bare_decimal_points → (signed : Bool) → Between (Unsigned o signed) bytes i k
bare_decimal o bytes i j k p d e a signed = record { boundary = e.boundary; order = omega (arith, d.order, e.order); piece = rw p.0 (Unsigned.bare_point a d.piece e.piece) }

pub hexadecimal : (o : Options) (bytes : List ℕ) (i j : ℕ) → Steps bytes i 0x30 (i + 1) → HasAt is_x bytes (i + 1) → Between (AllOf is_hex_digit) bytes (i + 2) j → IsTrue o.hexadecimal_numbers → (signed : Bool) → Between (Unsigned o signed) bytes i j
hexadecimal o bytes i j z x d a signed =
    let two : (i + 1) + 1 ≡ i + 2 = omega arith in
    let mark : rest bytes (i + 1) ≡ x.0 ∷ rest bytes (i + 2) = x.2.0 ∙ ap (λ k. x.0 ∷ rest bytes k) two in
    record { boundary = d.boundary; order = omega (arith, d.order); piece = rw (z.0, mark) (Unsigned.hex a x.1 d.piece) }

pub infinity : (bytes : List ℕ) (i j : ℕ) → Between (IsAlone (codes "Infinity")) bytes i j → (o : Options) → IsTrue o.non_finite_numbers → Between (Unsigned o true) bytes i j
infinity bytes i j n o a = record { boundary = n.boundary; order = n.order; piece = rw n.piece.0 (Unsigned.infinity a n.piece.1) }

pub nan : (bytes : List ℕ) (i j : ℕ) → Between (IsAlone (codes "NaN")) bytes i j → (o : Options) → IsTrue o.non_finite_numbers → Between (Unsigned o true) bytes i j
nan bytes i j n o a = record { boundary = n.boundary; order = n.order; piece = rw n.piece.0 (Unsigned.nan a n.piece.1) }

pub after_minus : (o : Options) (bytes : List ℕ) (i j : ℕ) → Steps bytes i 0x2D (i + 1) → Between (Unsigned o true) bytes (i + 1) j → Between (Number o) bytes i j
after_minus o bytes i j m u = record { boundary = u.boundary; order = omega (arith, u.order); piece = (true, rest bytes (i + 1), rw m.0 Sign.minus, u.piece) }

pub after_plus : (o : Options) (bytes : List ℕ) (i j : ℕ) → Steps bytes i 0x2B (i + 1) → IsTrue o.unary_plus_numbers → Between (Unsigned o true) bytes (i + 1) j → Between (Number o) bytes i j
after_plus o bytes i j p a u = record { boundary = u.boundary; order = omega (arith, u.order); piece = (true, rest bytes (i + 1), rw p.0 (Sign.plus a), u.piece) }

pub unsigned : (o : Options) (bytes : List ℕ) (i j : ℕ) → ((signed : Bool) → Between (Unsigned o signed) bytes i j) → Between (Number o) bytes i j
unsigned o bytes i j u = let n = u false in record { boundary = n.boundary; order = n.order; piece = (false, rest bytes i, Sign.none, n.piece) }

pub ok_map : {X E : Type 0} {P Q : X → Type 0} (r : Result X E) → ((x : X) → P x → Q x) → IfOk r P → IfOk r Q
ok_map (Ok x) f h = f x h
ok_map (Err e) f h = tt
