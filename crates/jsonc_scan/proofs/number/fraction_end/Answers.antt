use Rattle.std.proofs.Common.{refl}
use Rattle.jsonc_scan.proofs.NumberParts.{no_fraction, fraction_digits, fraction_bare}
use Rattle.jsonc_scan.proofs.number.fraction_end.Goals as goal

pub returns-then-not-has_byte-clause-found : goal.returns-then-not-has_byte-clause-found
returns-then-not-has_byte-clause-found c = no_fraction _ _ _ c.requires.to (c.if-not-has_byte.ensures.other refl)

pub returns-then-options-clause-found : goal.returns-then-options-clause-found
returns-then-options-clause-found c =
    fraction_bare _ _ _ (c.if-not-has_byte.ensures.here refl) c.in-None.ensures.none c.if-options.true

pub returns-in-Some-clause-found : goal.returns-in-Some-clause-found
returns-in-Some-clause-found c = fraction_digits _ _ _ _ (c.if-not-has_byte.ensures.here refl) c.in-Some.ensures.found
