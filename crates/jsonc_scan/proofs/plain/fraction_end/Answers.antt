use Rattle.std.proofs.Common.{refl}
use Rattle.jsonc_scan.proofs.NumberParts.{no_fraction, fraction_digits}
use Rattle.jsonc_scan.proofs.plain.fraction_end.Goals as goal

pub returns-then-not-has_byte : goal.returns-then-not-has_byte
returns-then-not-has_byte c = λ o. no_fraction o _ _ c.requires.boundary (c.if-not-has_byte.ensures.other refl)

pub returns : goal.returns
returns c = λ o. fraction_digits o _ _ _ (c.if-not-has_byte.ensures.here refl) c.in-Some.ensures
