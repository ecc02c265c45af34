use Rattle.std.proofs.Common.{sym, ◌∙◌}
use Rattle.jsonc_layout.proofs.lemmas.nodes.InTree.{rest_there}
use Rattle.jsonc_edit.proofs.lemmas.remove.SiblingSteps.{head_there, outermost_step}
use Rattle.jsonc_edit.proofs.remove.leaving.first_gone.Goals as goal

pub loop-sibling-preserved : goal.loop-sibling-preserved
loop-sibling-preserved g c =
    let ns = c.args.tree.now.nodes in
    let is = c.in-Some.ensures.steps in
    record {
      same = c.loop-sibling.invariant.same ∙ outermost_step ns c.loop-sibling.first c.in-Some.sibling c.loop-sibling.sibling-iterator c.next.new.self is (sym c.is_inline_trivia.ensures ∙ c.if-not-is_inline_trivia.false);
      in_tree = head_there ns c.loop-sibling.sibling-iterator c.in-Some.sibling c.next.new.self is c.loop-sibling.invariant.rest;
      rest = rest_there ns c.loop-sibling.sibling-iterator c.in-Some.sibling c.next.new.self is c.loop-sibling.invariant.rest;
    }
