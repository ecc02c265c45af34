use Rattle.std.proofs.Common.{arith}
use Rattle.jsonc_scan.proofs.NumberFaults.{name_told}
use Rattle.jsonc_scan.proofs.number.signed_end.Goals as goal

pub returns-then-options-clause-found : goal.returns-then-options-clause-found
returns-then-options-clause-found c = c.in-Some.ensures.found _ c.if-options.true

pub fault-requires-clause-spans : goal.fault-requires-clause-spans
fault-requires-clause-spans c =
    let name = c.in-Some.ensures.spans in
    record { from = c.requires.from; to = name.to; order = omega (arith, name.order) }

pub returns-clause-error : goal.returns-clause-error
returns-clause-error c = name_told _ _ _ _ _ c.if-options.false c.in-Some.ensures.name c.fault.ensures.error
