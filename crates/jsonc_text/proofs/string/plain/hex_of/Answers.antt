use Rattle.std.proofs.Common.{◌≡◌, ◌∙◌, ℕ, ◌<◌, Bool, true, false, IsTrue, map, cond, get_or, refl, ap, arith}
use Rattle.std.proofs.lemmas.List.FromFn.{get_or-map-range_with_len}
use Rattle.std.specs.Char.{digit_value}
use Rattle.std.specs.List.{range_with_len}
use Rattle.jsonc_text.specs.Text.{is_hex_digit}
use Rattle.jsonc_text.specs.declared.string.plain.TheConstants.{HEX}
use Rattle.jsonc_text.proofs.string.plain.hex_of.Goals as goal

abbrev written : ℕ → ℕ
written b = cond (is_hex_digit b) (digit_value b) 16

-- the table has what each byte writes
table_is : HEX ≡ map written (range_with_len 0 256)
table_is = refl

read : (b : ℕ) → b < 256 → get_or HEX b 0 ≡ written b
read b h = ap (λ t. get_or t b 0) table_is ∙ get_or-map-range_with_len written 0 256 b b 0 h (omega arith)

is_hex : (b v : ℕ) → v ≡ written b → v < 16 → IsTrue (is_hex_digit b) × (v ≡ digit_value b)
is_hex b v e l = go (is_hex_digit b) refl
  where
    go : (t : Bool) → is_hex_digit b ≡ t → IsTrue (is_hex_digit b) × (v ≡ digit_value b)
    go true k = (k, e ∙ ap (λ t. cond t (digit_value b) 16) k)
    go false k = absurd (omega (arith, e ∙ ap (λ t. cond t (digit_value b) 16) k))

pub returns-clause-is_hex : goal.returns-clause-is_hex
returns-clause-is_hex c = λ h. (is_hex c.args.byte _ (read c.args.byte (omega arith)) h).0

pub returns-clause-value : goal.returns-clause-value
returns-clause-value c = λ h. (is_hex c.args.byte _ (read c.args.byte (omega arith)) h).1
