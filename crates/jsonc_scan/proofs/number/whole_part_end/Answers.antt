use Rattle.std.proofs.Common.{refl}
use Rattle.jsonc_scan.proofs.NumberParts.{zero_whole, digits_whole}
use Rattle.jsonc_scan.proofs.number.whole_part_end.Goals as goal

pub returns-then-has_byte-clause-found : goal.returns-then-has_byte-clause-found
returns-then-has_byte-clause-found c =
    let zero = c.if-has_byte.ensures.here refl in
    zero_whole _ _ zero (c.requires.mark zero)

pub returns-clause-found : goal.returns-clause-found
returns-clause-found c = digits_whole _ _ _ (c.if-has_byte.ensures.other refl) c.in-Some.ensures.found
