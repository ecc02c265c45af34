use Rattle.std.proofs.Common.{[], subst, arith}
use Rattle.std.proofs.lemmas.List.{take_all}
use Rattle.jsonc_parser.specs.Lists.{RunSteps, none_made}
use Rattle.jsonc_parser.proofs.Lists.{have_been_made, have_stopped, more_made_after, next_seen}
use Rattle.jsonc_parser.proofs.cst.lists.make_all.Goals as goal

pub loop-count-init : goal.loop-count-init
loop-count-init g c = ([], none_made)

pub loop-count-preserved : goal.loop-count-preserved
loop-count-preserved g c =
    more_made_after g.C.Fn c.args.compare.now g.D.DocumentArg.same c.args.doc.now c.loop-count.doc c.make.new.doc c.args.edits.now c.loop-count.count c.index-edits-count.result c.loop-count.invariant.0 c.loop-count-test.true c.index-edits-count.is c.loop-count.invariant.1 c.in_default.ensures.made c.make.new.doc.tree.tree

pub returns-in-Err-clause-stopped : goal.returns-in-Err-clause-stopped
returns-in-Err-clause-stopped g c =
    have_stopped g.C.Fn c.args.compare.now g.D.DocumentArg.same c.args.doc.now c.loop-count.doc c.make.new.doc c.args.edits.now c.loop-count.count c.loop-count.invariant.0 c.index-edits-count.result c.in-Err.stop c.args.doc.now.tree.tree c.make.new.doc.tree.tree c.loop-count.invariant.1 (next_seen c.args.edits.now c.loop-count.count c.index-edits-count.result c.loop-count-test.true c.index-edits-count.is) c.in-Err.ensures.error c.in-Err.ensures.left

pub returns-clause-made : goal.returns-clause-made
returns-clause-made g c =
    let all = take_all c.loop-count.count c.args.edits.now (omega (arith, c.loop-count-test.false)) in
    have_been_made g.C.Fn c.args.compare.now g.D.DocumentArg.same c.args.doc.now c.loop-count.doc c.args.edits.now c.loop-count.invariant.0 c.args.doc.now.tree.tree
    (subst (λ l. RunSteps g.C.Fn c.args.compare.now g.D.DocumentArg.same c.args.doc.now l c.loop-count.invariant.0 c.loop-count.doc) all c.loop-count.invariant.1)
