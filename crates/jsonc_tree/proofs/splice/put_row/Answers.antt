use Rattle.std.proofs.Common.{◌+◌, slice_index, arith, refl, sym, subst, ◌∙◌, add-zero}
use Rattle.std.proofs.lemmas.List.{take_all}
use Rattle.jsonc_tree.specs.Changes.{Splices}
use Rattle.jsonc_tree.specs.Stored.{nodes_of}
use Rattle.jsonc_tree.specs.Siblings.{IsGap}
use Rattle.jsonc_tree.proofs.Stretches.{Splices-none}
use Rattle.jsonc_tree.proofs.AgreeingLinks.{length_shown}
use Rattle.jsonc_tree.proofs.LinkSteps.{put_step, put_can}
use Rattle.jsonc_tree.proofs.splice.put_row.Goals as goal

pub loop-i-init : goal.loop-i-init
loop-i-init g c = record {
  splices = λ k gap. Splices-none (nodes_of c.args.nodes.now.items) c.args.c k gap.inside;
  gap = λ k gap. subst (λ m. IsGap (nodes_of c.args.nodes.now.items) c.args.c m c.args.before c.args.behind) (sym (add-zero k)) gap;
  stored = c.requires.stored;
  len = refl;
}

pub put_between-requires-clause-stored : goal.put_between-requires-clause-stored
put_between-requires-clause-stored g c = c.loop-i.invariant.stored

pub put_between-requires-clause-can : goal.put_between-requires-clause-can
put_between-requires-clause-can g c =
    let gap = c.requires.can in
    put_can (nodes_of c.args.nodes.now.items) (nodes_of c.loop-i.nodes.items) c.args.c gap.0 c.loop-i.i (slice_index c.args.new.now c.loop-i.i) c.args.new.now (omega (arith, c.requires.in_tree, length_shown c.args.nodes.now.items, c.args.nodes.now.ok.0)) c.requires.container (omega arith) refl gap.2 (c.loop-i.invariant.splices gap.0 gap.1)

pub put_between-requires-clause-gap : goal.put_between-requires-clause-gap
put_between-requires-clause-gap g c = (c.requires.can.0 + c.loop-i.i, c.loop-i.invariant.gap c.requires.can.0 c.requires.can.1)

pub loop-i-preserved : goal.loop-i-preserved
loop-i-preserved g c = record {
  splices = λ k gap. (put_step (nodes_of c.args.nodes.now.items) (nodes_of c.loop-i.nodes.items) (nodes_of c.put_between.new.nodes.items) c.args.c k c.loop-i.i (slice_index c.args.new.now c.loop-i.i) c.args.new.now c.loop-i.last c.args.behind gap.inside (omega arith) refl (c.loop-i.invariant.splices k gap) (c.loop-i.invariant.gap k gap) (c.put_between.ensures.fills (k + c.loop-i.i) (c.loop-i.invariant.gap k gap))).0;
  gap = λ k gap. (put_step (nodes_of c.args.nodes.now.items) (nodes_of c.loop-i.nodes.items) (nodes_of c.put_between.new.nodes.items) c.args.c k c.loop-i.i (slice_index c.args.new.now c.loop-i.i) c.args.new.now c.loop-i.last c.args.behind gap.inside (omega arith) refl (c.loop-i.invariant.splices k gap) (c.loop-i.invariant.gap k gap) (c.put_between.ensures.fills (k + c.loop-i.i) (c.loop-i.invariant.gap k gap))).1;
  stored = c.put_between.ensures.stored;
  len = c.put_between.ensures.len ∙ c.loop-i.invariant.len;
}

pub returns-clause-fills : goal.returns-clause-fills
returns-clause-fills g c = λ k gap.
    subst (λ l. Splices (nodes_of c.args.nodes.now.items) (nodes_of c.loop-i.nodes.items) c.args.c k k l) (take_all c.loop-i.i c.args.new.now (omega arith)) (c.loop-i.invariant.splices k gap)

pub returns-clause-stored : goal.returns-clause-stored
returns-clause-stored g c = c.loop-i.invariant.stored
