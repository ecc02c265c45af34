use Rattle.std.proofs.Common.{sym, ◌∙◌}
use Rattle.jsonc_edit.proofs.lemmas.remove.SiblingSteps.{after_fewer, next_there}
use Rattle.jsonc_edit.proofs.lemmas.remove.ClearedComments.{behind_goes_on, behind_newline, behind_over, behind_stops}
use Rattle.jsonc_edit.proofs.remove.comments.line_behind.Goals as goal

pub returns-then-is_newline-clause-line : goal.returns-then-is_newline-clause-line
returns-then-is_newline-clause-line g c =
    sym (c.loop-next.invariant.same ∙ behind_newline c.args.tree.now.nodes c.args.tree.now.tree c.loop-next.last c.in-Some.next (sym c.next_sibling.ensures ∙ c.in-Some.is) (sym c.is_newline.ensures.newline ∙ c.if-is_newline.true))

pub returns-then-is_newline-clause-in_tree : goal.returns-then-is_newline-clause-in_tree
returns-then-is_newline-clause-in_tree g c = next_there c.args.tree.now.nodes c.args.tree.now.tree c.loop-next.last c.in-Some.next (sym c.next_sibling.ensures ∙ c.in-Some.is)

pub returns-then-not-is_whitespace-clause-line : goal.returns-then-not-is_whitespace-clause-line
returns-then-not-is_whitespace-clause-line g c =
    sym
    (c.loop-next.invariant.same
    ∙ behind_stops c.args.tree.now.nodes c.args.tree.now.tree c.loop-next.last c.in-Some.next (sym c.next_sibling.ensures ∙ c.in-Some.is) (sym c.is_newline.ensures.newline ∙ c.if-is_newline.false) (sym c.is_whitespace.ensures.whitespace ∙ c.if-not-is_whitespace.true))

pub loop-next-smaller : goal.loop-next-smaller
loop-next-smaller g c = after_fewer c.args.tree.now.nodes c.args.tree.now.tree c.loop-next.last c.in-Some.next (sym c.next_sibling.ensures ∙ c.in-Some.is)

pub loop-next-preserved : goal.loop-next-preserved
loop-next-preserved g c = record {
  same =
      c.loop-next.invariant.same
      ∙ behind_goes_on c.args.tree.now.nodes c.args.tree.now.tree c.loop-next.last c.in-Some.next (sym c.next_sibling.ensures ∙ c.in-Some.is) (sym c.is_newline.ensures.newline ∙ c.if-is_newline.false)
      (sym c.is_whitespace.ensures.whitespace ∙ c.if-not-is_whitespace.false);
  in_tree = next_there c.args.tree.now.nodes c.args.tree.now.tree c.loop-next.last c.in-Some.next (sym c.next_sibling.ensures ∙ c.in-Some.is);
}

pub returns-clause-line : goal.returns-clause-line
returns-clause-line g c = sym (c.loop-next.invariant.same ∙ behind_over c.args.tree.now.nodes c.args.tree.now.tree c.loop-next.last (sym c.next_sibling.ensures ∙ c.in_default.is))
