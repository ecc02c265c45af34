-- Decimal digits are numbers of JSON.
use Rattle.std.proofs.Common.{ℕ, ◌≡◌, ◌+◌, ◌/◌, ◌%◌, ◌^◌, ◌<◌, ◌≤◌, zero, suc, refl, true, false, List, [], ◌∷◌, ◌++◌, IsTrue, arith, ℤ, pos, negsuc, chars, sym, ap, subst, ◌∙◌}
use lib.Signed.{mag}
use Rattle.std.specs.Fmt.{decimal, signed_decimal}
use Rattle.std.specs.Int.{is_in_range}
use Rattle.std.proofs.lemmas.Fmt.{decimal_by_steps, IsAscii-decimal, IsAscii-signed}
use Rattle.std.proofs.lemmas.Str.{chars-IsAscii}
use Rattle.std.specs.Str.{IsAscii}
use Rattle.std.specs.String.{string_bytes}
use Rattle.std.specs.declared.string.String.{String}
use Rattle.jsonc_text.specs.Options.{Options}
use Rattle.jsonc_text.specs.Text.{Many, stop, step, is_digit}
use Rattle.jsonc_text.specs.Numbers.{Sign, Whole, Fraction, Exponent, Unsigned}
use Rattle.jsonc_text.specs.Plain.{number}
use Rattle.jsonc_layout.specs.input.Numbers.{IsAlwaysNumber}
use Rattle.jsonc_layout.specs.input.Views.{plain}
use Rattle.jsonc_layout.specs.declared.input.value.CstInputValue.{Number}
use Rattle.jsonc_layout.proofs.lemmas.input.ValueLevels.{plain-Number}

-- the digits of n: `0` alone, or the first of them is none
data Digits (n : ℕ) : List ℕ → Type 0 where
  nought : n ≡ 0 → Digits n (0x30 ∷ [])
  begins : {c : ℕ} {t : List ℕ} → 0 < n → IsTrue (is_in_range 0x31 0x39 c) → Many is_digit t [] → Digits n (c ∷ t)

many_push : {t : List ℕ} (c : ℕ) → IsTrue (is_digit c) → Many is_digit t [] → Many is_digit (t ++ c ∷ []) []
many_push c h stop = step h stop
many_push c h (step e m) = step e (many_push c h m)

digit_from_1 : (n : ℕ) → 0 < n → n < 10 → IsTrue (is_in_range 0x31 0x39 (48 + n))
digit_from_1 n h k = grind arith

digit : (n : ℕ) → n < 10 → IsTrue (is_digit (48 + n))
digit n k = grind arith

one_digit : (n : ℕ) → n < 10 → Digits n ((48 + n) ∷ [])
one_digit zero h = Digits.nought refl
one_digit (suc n) h = Digits.begins (omega arith) (digit_from_1 (suc n) (omega arith) h) stop

more_digits : (n : ℕ) (ds : List ℕ) → 10 ≤ n → Digits (n / 10) ds → Digits n (ds ++ (48 + n % 10) ∷ [])
more_digits n ds h (Digits.nought e) = absurd (omega arith)
more_digits n ds h (Digits.begins p c m) = Digits.begins (omega arith) c (many_push _ (digit (n % 10) (omega arith)) m)

unsigned : {n : ℕ} {ds : List ℕ} (o : Options) → Digits n ds → (signed : _) → Unsigned o signed ds []
unsigned o (Digits.nought e) signed = Unsigned.decimal (Whole.zero refl) (Fraction.none refl) (Exponent.none refl)
unsigned o (Digits.begins p c m) signed = Unsigned.decimal (Whole.digits c m refl) (Fraction.none refl) (Exponent.none refl)

decimal_number : (n : ℕ) → n < 2 ^ 64 → IsAlwaysNumber (number (decimal n))
decimal_number n h o = (false, decimal n, Sign.none, unsigned o (decimal_by_steps Digits one_digit more_digits n h) false)

signed_number : (z : ℤ) → mag z < 2 ^ 63 → IsAlwaysNumber (number (signed_decimal z))
signed_number (pos n) h o = decimal_number n (omega arith) o
signed_number (negsuc n) h o = (true, decimal (suc n), Sign.minus, unsigned o (decimal_by_steps Digits one_digit more_digits (suc n) (omega arith)) true)

module _ {A : Type 0} (s : String A) where
  ascii_number : (t : List ℕ) → IsAscii t → string_bytes s ≡ t → plain (Number s) ≡ number t
  ascii_number t h e = plain-Number s ∙ ap (λ b. number (chars b)) e ∙ ap number (chars-IsAscii t h)

  pub plain_decimal : (n : ℕ) → n < 2 ^ 64 → string_bytes s ≡ decimal n → plain (Number s) ≡ number (decimal n)
  plain_decimal n h e = ascii_number (decimal n) (IsAscii-decimal n h) e

  pub always_decimal : (n : ℕ) → n < 2 ^ 64 → string_bytes s ≡ decimal n → IsAlwaysNumber (plain (Number s))
  always_decimal n h e = subst IsAlwaysNumber (sym (plain_decimal n h e)) (decimal_number n h)

  pub plain_signed : (z : ℤ) → mag z < 2 ^ 63 → string_bytes s ≡ signed_decimal z → plain (Number s) ≡ number (signed_decimal z)
  plain_signed z h e = ascii_number (signed_decimal z) (IsAscii-signed z h) e

  pub always_signed : (z : ℤ) → mag z < 2 ^ 63 → string_bytes s ≡ signed_decimal z → IsAlwaysNumber (plain (Number s))
  always_signed z h e = subst IsAlwaysNumber (sym (plain_signed z h e)) (signed_number z h)
