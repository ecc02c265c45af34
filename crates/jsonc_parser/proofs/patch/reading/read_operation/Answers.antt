use Rattle.jsonc_ast.specs.Views as ast
use Rattle.jsonc_parser.proofs.lemmas.patch.PatchReads.{fault_of_members, fault_of_object}
use Rattle.jsonc_parser.specs.patch.PatchFaults.{of_another}
use Rattle.jsonc_parser.specs.patch.PatchReading.{said}
use Rattle.std.proofs.lemmas.Result.{IfErr-weaker, IfOk-weaker}
use Rattle.jsonc_parser.proofs.patch.reading.read_operation.Goals as goal

pub returns-in_default-clause-fault : goal.returns-in_default-clause-fault
returns-in_default-clause-fault g c = of_another c.in_default.ensures.none

pub returns-in-Ok-clause-operation : goal.returns-in-Ok-clause-operation
returns-in-Ok-clause-operation g c =
    IfOk-weaker c.of_members.result _ _ (λ o h. record { members = said c.in-Some.members.now; is = c.in-Some.ensures.some; differ = c.in-Ok.ensures.differ; says = h }) c.of_members.ensures.says

pub returns-in-Ok-clause-fault : goal.returns-in-Ok-clause-fault
returns-in-Ok-clause-fault g c =
    IfErr-weaker c.of_members.result _ _ (λ e h. fault_of_object (ast.plain c.args.value.now) (said c.in-Some.members.now) e c.in-Some.ensures.some h) c.of_members.ensures.fault

pub returns-in-Err-clause-fault : goal.returns-in-Err-clause-fault
returns-in-Err-clause-fault g c =
    fault_of_object (ast.plain c.args.value.now) (said c.in-Some.members.now) c.in-Err.fault c.in-Some.ensures.some
    (fault_of_members (said c.in-Some.members.now) c.in-Err.fault c.in-Err.ensures.repeated)
