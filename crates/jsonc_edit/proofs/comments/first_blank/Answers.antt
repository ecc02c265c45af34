use Rattle.std.proofs.Common.{sym, ◌∙◌}
use Rattle.jsonc_edit.proofs.BlanksBefore.{back_ends, back_none, back_step, back_stops}
use Rattle.jsonc_edit.proofs.comments.first_blank.Goals as goal

pub loop-sibling-init : goal.loop-sibling-init
loop-sibling-init g c = back_none c.args.tree.now.nodes c.args.tree.now.tree c.args.container c.args.node _ c.requires (c.into_iter-sibling-iterator.ensures.into_iter_gives ∙ c.previous_siblings-sibling-items.ensures.siblings)

pub loop-sibling-preserved : goal.loop-sibling-preserved
loop-sibling-preserved g c =
    back_step c.args.tree.now.nodes c.args.tree.now.tree c.args.container c.args.node c.loop-sibling.first c.loop-sibling.sibling-iterator c.loop-sibling.invariant c.in-Some.sibling c.next.new.self c.in-Some.ensures.steps (sym c.is_whitespace.ensures.whitespace ∙ c.if-not-is_whitespace.false)

pub returns-then-not-is_whitespace : goal.returns-then-not-is_whitespace
returns-then-not-is_whitespace g c = record {
  child = c.loop-sibling.invariant.child;
  place = back_stops c.args.tree.now.nodes c.args.tree.now.tree c.args.container c.args.node c.loop-sibling.first c.loop-sibling.sibling-iterator c.loop-sibling.invariant c.in-Some.sibling c.next.new.self c.in-Some.ensures.steps (sym c.is_whitespace.ensures.whitespace ∙ c.if-not-is_whitespace.true);
  before = c.loop-sibling.invariant.order;
}

pub returns-clause-place : goal.returns-clause-place
returns-clause-place g c =
    back_ends c.args.tree.now.nodes c.args.tree.now.tree c.args.container c.args.node c.loop-sibling.first c.loop-sibling.sibling-iterator c.loop-sibling.invariant c.in-None.ensures.steps.0
