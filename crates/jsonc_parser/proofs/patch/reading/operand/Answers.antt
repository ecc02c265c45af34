use Rattle.std.proofs.Common.{subst, sym}
use Rattle.jsonc_ast.specs.Views as ast
use Rattle.jsonc_parser.proofs.lemmas.patch.PatchReads.{fault_of_operand}
use Rattle.jsonc_parser.specs.patch.PatchReading.{said}
use Rattle.jsonc_parser.specs.patch.PatchTexts.{HasOperand}
use Rattle.jsonc_parser.proofs.patch.reading.operand.Goals as goal

pub returns-in-Ok-value_of-clause-value : goal.returns-in-Ok-value_of-clause-value
returns-in-Ok-value_of-clause-value g c =
    subst (λ v. HasOperand v (said c.args.members.now)) (sym c.in-Ok-value_of.ensures.value) (c.in-Ok.ensures.found, c.in-Ok-value_of.ensures.unique)

pub returns-in-Err-value_of-clause-fault : goal.returns-in-Err-value_of-clause-fault
returns-in-Err-value_of-clause-fault g c = λ needs.
    fault_of_operand (said c.args.members.now) (ast.plain c.in-Ok.value.now) c.in-Err-value_of.fault needs c.in-Ok.ensures.found c.in-Err-value_of.ensures.fault
