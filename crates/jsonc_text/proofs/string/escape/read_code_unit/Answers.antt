use Rattle.jsonc_text.proofs.lemmas.string.Escapes.{no_unit, lone_low, low_of, alone_found, alone_left}
use Rattle.jsonc_text.proofs.lemmas.string.Faults.{lacks_four, told_four, told_low}
use Rattle.jsonc_text.proofs.string.escape.read_code_unit.Goals as goal

pub returns-in-Err-clause-none : goal.returns-in-Err-clause-none
returns-in-Err-clause-none c = no_unit _ _ c.requires.backslash c.requires.u c.in-Err.ensures.none

pub returns-then-unit-clause-none : goal.returns-then-unit-clause-none
returns-then-unit-clause-none c = lone_low _ _ _ _ c.in-Ok.ensures.found (low_of c.in-Ok.unit.value c.if-unit.true)

pub returns-clause-found : goal.returns-clause-found
returns-clause-found c = alone_found _ _ _ _ _ c.in-Ok.ensures.found (alone_left c.in-Ok.unit.value c.if-unit.false c.if-unit-2.false) c.in-Some.ensures.value.1

pub returns-in-Err-clause-error : goal.returns-in-Err-clause-error
returns-in-Err-clause-error c =
    let read = c.string_fault.ensures in
    told_four c.args.text.now _ c.in-Err.stop _ read.start read.end read.kind (lacks_four _ _ c.requires.backslash c.requires.u c.in-Err.ensures.few)

pub returns-then-unit-clause-error : goal.returns-then-unit-clause-error
returns-then-unit-clause-error c =
    let read = c.string_fault-then-unit.ensures in
    told_low c.args.text.now _ _ c.in-Ok.unit.value _ read.start read.end c.in-Ok.ensures.through read.kind c.in-Ok.ensures.digits (low_of c.in-Ok.unit.value c.if-unit.true)
