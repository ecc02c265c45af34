use Rattle.std.proofs.Common.{refl}
use Rattle.jsonc_text.specs.Text.{is_digit}
use Rattle.jsonc_scan.proofs.NumberParts.{some_found}
use Rattle.jsonc_scan.proofs.number.some_digits_end.Goals as goal

pub returns-clause-found : goal.returns-clause-found
returns-clause-found c =
    let read = c.digits_end.ensures in
    some_found is_digit _ _ _ (c.if-not-has_digit.ensures.here refl) read.boundary read.order read.digits read.all
