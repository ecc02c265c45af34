use Rattle.std.proofs.Common.{◌≡◌, ℕ, ◌*◌, ◌^◌, ◌≤◌, refl, None, ap, ◌∙◌, arith}
use Rattle.std.specs.Float.Ieee.{binary64, round}
use Rattle.std.specs.Str.Parse.{digits_value}
use Rattle.jsonc_parser.specs.Numbers.{Unsigned, Hexadecimal}
use Rattle.jsonc_parser.proofs.NumberSigns.{if_none}
use Rattle.jsonc_parser.proofs.NumberTexts.{hex_long, hex_is}
use Rattle.jsonc_parser.proofs.numbers.nearest_f64.Goals as goal

pub returns-in_err-hex_u64-in-Some-clause-none : goal.returns-in_err-hex_u64-in-Some-clause-none
returns-in_err-hex_u64-in-Some-clause-none c =
    let long : (m d : ℕ) → Unsigned c.args.unsigned.now m d → Hexadecimal c.args.unsigned.now m × (2 ^ 64 ≤ m) = hex_long c.args.unsigned.now c.in-Some.digits.now None c.in-Some.ensures.some c.in_err-hex_u64-in-Some.ensures refl in
    if_none c.from_residual.result long

pub returns-in_ok-hex_u64-in-Some-clause-some : goal.returns-in_ok-hex_u64-in-Some-clause-some
returns-in_ok-hex_u64-in-Some-clause-some c =
    let ds = c.in-Some.digits.now in
    let h = c.in_ok-hex_u64-in-Some.ensures in
    let same : c.in_ok-hex_u64-in-Some.field-0 * 10 ^ 0 ≡ digits_value 16 ds = omega (arith, h.1) in
    (digits_value 16 ds, 1, Unsigned.hexadecimal (hex_is c.args.unsigned.now ds c.in-Some.ensures.some h.0.0), c.from_parts.ensures ∙ ap (λ m. round binary64 c.args.negative m 1) same)

pub returns-in_ok-decimal_parts-in-None-clause-some : goal.returns-in_ok-decimal_parts-in-None-clause-some
returns-in_ok-decimal_parts-in-None-clause-some c = (_, _, Unsigned.decimal c.in_ok-decimal_parts-in-None.ensures.some, c.to_float.ensures)
