use Rattle.std.proofs.Common.{refl}
use Rattle.jsonc_scan.proofs.NumberParts.{no_zero}
use Rattle.jsonc_scan.proofs.number.has_hexadecimal_mark.Goals as goal

pub returns-then-not-has_byte-clause-other : goal.returns-then-not-has_byte-clause-other
returns-then-not-has_byte-clause-other c = λ _. no_zero _ _ (c.if-not-has_byte.ensures.other refl)

pub returns-clause-here : goal.returns-clause-here
returns-clause-here c = λ h. (c.if-not-has_byte.ensures.here refl, c.has_either.ensures.here h)
