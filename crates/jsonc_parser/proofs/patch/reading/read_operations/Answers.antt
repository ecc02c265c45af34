use Rattle.std.proofs.Common.{map, subst, sym, take}
use Rattle.std.proofs.lemmas.List.{take_all}
use Rattle.jsonc_walk.specs.Located.{items_at}
use Rattle.jsonc_ast.specs.Views.{items_located}
use Rattle.jsonc_ast.specs.Views as ast
use Rattle.jsonc_parser.proofs.lemmas.patch.PatchReads.{first_fault, no_room, operations_so_far}
use Rattle.jsonc_parser.specs.patch.Asked.{asked}
use Rattle.jsonc_parser.specs.patch.PatchTexts.{AreOperations, no_operations}
use Rattle.jsonc_parser.proofs.patch.reading.read_operations.Goals as goal

pub loop-number-init : goal.loop-number-init
loop-number-init g c = subst (λ os. AreOperations (items_at (items_located (take 0 c.args.values.now))) (map asked os)) (sym c.new-operations.ensures.items) no_operations

pub returns-in-Err-clause-fault : goal.returns-in-Err-clause-fault
returns-in-Err-clause-fault g c =
    first_fault c.args.values.now (map asked c.loop-number.operations.items) c.loop-number.number c.index-values-number.result c.in-Err.fault c.loop-number-test.true c.index-values-number.is c.loop-number.invariant c.in-Err.ensures.fault

pub returns-in_default-clause-fault : goal.returns-in_default-clause-fault
returns-in_default-clause-fault g c =
    first_fault c.args.values.now (map asked c.loop-number.operations.items) c.loop-number.number c.index-values-number.result _ c.loop-number-test.true c.index-values-number.is c.loop-number.invariant
    (no_room (ast.plain c.index-values-number.result) (asked c.in-Ok.operation) c.in-Ok.ensures.operation)

pub loop-number-preserved : goal.loop-number-preserved
loop-number-preserved g c =
    operations_so_far asked c.args.values.now c.loop-number.operations.items c.push.new.self.items c.loop-number.number c.index-values-number.result c.in-Ok.operation
    c.loop-number-test.true c.index-values-number.is c.loop-number.invariant c.in-Ok.ensures.operation c.in-Ok-push.ensures.items

pub returns-clause-operations : goal.returns-clause-operations
returns-clause-operations g c =
    subst (λ vs. AreOperations (items_at (items_located vs)) (map asked c.loop-number.operations.items)) (take_all c.loop-number.number c.args.values.now c.loop-number-test.false) c.loop-number.invariant
