use Rattle.std.proofs.Common.{subst, sym}
use Rattle.jsonc_text.specs.Faults.{IsFault}
use Rattle.jsonc_walk.specs.Context.{text_in}
use Rattle.jsonc_walk.specs.Refusals.{IsAllocationFailure}
use Rattle.jsonc_walk.proofs.walk.read_document.Goals as goal

pub returns-in-Err-clause-fault : goal.returns-in-Err-clause-fault
returns-in-Err-clause-fault g c = subst (IsFault (text_in c.args.context.now)) (sym c.taken_fault.ensures) c.in-Err.ensures.fault.of_text

pub returns-in-Err-clause-memory : goal.returns-in-Err-clause-memory
returns-in-Err-clause-memory g c = λ m. c.in-Err.ensures.fault.memory (subst IsAllocationFailure c.taken_fault.ensures m)
