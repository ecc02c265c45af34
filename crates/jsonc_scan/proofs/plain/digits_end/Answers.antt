use Rattle.std.proofs.Common.{arith}
use Rattle.jsonc_text.specs.Options.{all_on}
use Rattle.jsonc_scan.proofs.NumberParts.{decimal}
use Rattle.jsonc_scan.proofs.plain.digits_end.Goals as goal

pub returns : goal.returns
returns c = λ o. decimal o _ _ _ _ _ c.in-Some.ensures (c.in-Some-fraction_end.ensures o) c.in-Some-exponent_end.ensures

pub exponent_end-requires-clause-boundary : goal.exponent_end-requires-clause-boundary
exponent_end-requires-clause-boundary c = (c.in-Some-fraction_end.ensures all_on).boundary

pub exponent_end-requires-clause-order : goal.exponent_end-requires-clause-order
exponent_end-requires-clause-order c =
    let fraction = c.in-Some-fraction_end.ensures all_on in
    omega (arith, c.in-Some.ensures.order, fraction.order)
