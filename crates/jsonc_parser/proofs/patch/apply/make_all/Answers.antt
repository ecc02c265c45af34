use Rattle.std.proofs.Common.{arith, refl, subst}
use Rattle.jsonc_text.specs.Options.{Options}
use Rattle.jsonc_parser.specs.patch.Applied.{FailsWhatShown, MakesWhatShown}
use Rattle.jsonc_parser.specs.patch.Asked.{asked, FitsIn}
use Rattle.jsonc_parser.specs.declared.patch.operation.Operation.{Operation}
use Rattle.jsonc_parser.proofs.lemmas.patch.Chains.{patched_all, patched_none, patched_to_here, stopped_here}
use Rattle.jsonc_parser.proofs.patch.apply.make_all.Goals as goal

pub loop-number-init : goal.loop-number-init
loop-number-init g c = patched_none c.args.doc.now

pub loop-number-preserved : goal.loop-number-preserved
loop-number-preserved g c =
    patched_to_here c.args.doc.now c.args.operations.now c.loop-number.number c.loop-number.doc c.loop-number.invariant c.index-operations-number.result c.loop-number-test.true c.make.new.doc
    (subst (λ (o : Operation g.row.A.Denot). MakesWhatShown c.loop-number.doc (asked o) (λ (p : Options). FitsIn p o) c.make.new.doc) c.index-operations-number.is c.in_default.ensures.made)

pub returns-in-Err-clause-stops : goal.returns-in-Err-clause-stops
returns-in-Err-clause-stops g c =
    stopped_here c.args.doc.now c.args.operations.now c.loop-number.number c.loop-number.doc c.loop-number.invariant c.index-operations-number.result c.loop-number-test.true _ refl
    (subst (λ (o : Operation g.row.A.Denot). FailsWhatShown c.loop-number.doc (asked o) c.in-Err.cause) c.index-operations-number.is c.in-Err.ensures.fails)

pub returns-clause-patched : goal.returns-clause-patched
returns-clause-patched g c = patched_all c.args.doc.now c.args.operations.now c.loop-number.number c.loop-number.doc c.loop-number.invariant (omega (arith, c.loop-number-test.false))
