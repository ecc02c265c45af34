use Rattle.std.proofs.Common.{refl}
use Rattle.jsonc_scan.proofs.NumberParts.{zero_whole, digits_whole}
use Rattle.jsonc_scan.proofs.plain.whole_part_end.Goals as goal

pub returns-then-has_byte : goal.returns-then-has_byte
returns-then-has_byte c =
    let zero = c.if-has_byte.ensures.here refl in
    zero_whole _ _ zero (c.requires.mark zero)

pub returns : goal.returns
returns c = digits_whole _ _ _ (c.if-has_byte.ensures.other refl) c.in-Some.ensures
