use Rattle.std.proofs.Common.{refl}
use Rattle.jsonc_scan.proofs.NumberParts.{no_exponent, exponent_digits, exponent_signed}
use Rattle.jsonc_scan.proofs.plain.exponent_end.Goals as goal

pub returns-then-not-has_either : goal.returns-then-not-has_either
returns-then-not-has_either c = no_exponent _ _ c.requires.boundary (c.if-not-has_either.ensures.other refl)

pub returns-then-has_either : goal.returns-then-has_either
returns-then-has_either c =
    exponent_signed _ _ _ (c.if-not-has_either.ensures.here refl) (c.if-has_either.ensures.here refl) c.in-Some.ensures

pub returns : goal.returns
returns c = exponent_digits _ _ _ (c.if-not-has_either.ensures.here refl) c.in-Some-near_digits_end.ensures
