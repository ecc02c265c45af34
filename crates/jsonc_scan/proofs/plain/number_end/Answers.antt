use Rattle.std.proofs.Common.{refl, true}
use Rattle.jsonc_scan.proofs.NumberParts.{after_minus, unsigned}
use Rattle.jsonc_scan.proofs.plain.number_end.Goals as goal

pub returns-then-has_byte : goal.returns-then-has_byte
returns-then-has_byte c = λ o. after_minus o _ _ _ (c.if-has_byte.ensures.here refl) (c.in-Some.ensures o true)

pub returns : goal.returns
returns c = λ o. unsigned o _ _ _ (c.in-Some-digits_end.ensures o)
