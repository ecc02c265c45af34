use Rattle.jsonc_scan.proofs.NumberParts.{hexadecimal}
use Rattle.jsonc_scan.proofs.NumberFaults.{hexadecimal_told, hex_digits_told}
use Rattle.jsonc_scan.proofs.NoNumbers.{hex_without_digits}
use Rattle.jsonc_scan.proofs.number.hexadecimal_end.Goals as goal

pub returns-in-Some-clause-found : goal.returns-in-Some-clause-found
returns-in-Some-clause-found c = hexadecimal _ _ _ _ c.requires.zero c.requires.x c.in-Some.ensures.found c.if-not-options.false

pub returns-then-not-options-clause-error : goal.returns-then-not-options-clause-error
returns-then-not-options-clause-error c = λ s n.
    hexadecimal_told _ _ _ _ _ c.if-not-options.true c.requires.zero c.requires.x c.fault.ensures.error s

pub returns-in-None-clause-none : goal.returns-in-None-clause-none
returns-in-None-clause-none c = hex_without_digits _ c.args.text.now c.args.start c.requires.zero c.requires.x c.in-None.ensures.none

pub returns-in-None-clause-error : goal.returns-in-None-clause-error
returns-in-None-clause-error c = λ s n.
    hex_digits_told _ _ _ _ _ c.if-not-options.false c.requires.zero c.requires.x c.in-None.ensures.none c.fault_at.ensures.kind c.fault_at.ensures.next s
