use Rattle.std.proofs.Common.{arith}
use Rattle.jsonc_text.specs.Options.{all_on}
use Rattle.jsonc_scan.proofs.scanner.Scanner.step_plain.Goals as goal

pub invariant_of-self : goal.invariant_of-self
invariant_of-self g c =
    let stands = c.in-Some.ensures.stands all_on in
    record { at_place = stands.boundary; starts_at_place = c.gap_end-start.ensures.boundary; order = omega (arith, stands.order) }

pub returns-in-Some-clause-found : goal.returns-in-Some-clause-found
returns-in-Some-clause-found g c = let stands = c.in-Some.ensures.stands _ in (stands.order, stands.piece)

pub returns-in-Some-clause-lent : goal.returns-in-Some-clause-lent
returns-in-Some-clause-lent g c = c.in-Some.ensures.plain

pub invariant_of-self-in-Some-plain_number : goal.invariant_of-self-in-Some-plain_number
invariant_of-self-in-Some-plain_number g c =
    let n = c.in-Some-plain_number.ensures all_on in
    record { at_place = n.boundary; starts_at_place = c.gap_end-start.ensures.boundary; order = omega (arith, n.order) }

pub returns-in-Some-plain_number-clause-found : goal.returns-in-Some-plain_number-clause-found
returns-in-Some-plain_number-clause-found g c = let n = c.in-Some-plain_number.ensures _ in (n.order, n.piece)
