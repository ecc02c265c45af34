use Rattle.std.proofs.Common.{sym, ◌∙◌}
use Rattle.jsonc_edit.proofs.lemmas.remove.SiblingSteps.{after_fewer, line_goes_on, line_newline, line_over, line_stops, next_there}
use Rattle.jsonc_edit.proofs.remove.leaving.line_end.Goals as goal

pub trails_line-requires : goal.trails_line-requires
trails_line-requires g c = next_there c.args.tree.now.nodes c.args.tree.now.tree c.loop-next.last c.in-Some.next (sym c.next_sibling.ensures ∙ c.in-Some.is)

pub returns-then-is_newline-clause-end : goal.returns-then-is_newline-clause-end
returns-then-is_newline-clause-end g c =
    sym (c.loop-next.invariant.same ∙ line_newline c.args.tree.now.nodes c.args.tree.now.tree c.loop-next.last c.in-Some.next (sym c.next_sibling.ensures ∙ c.in-Some.is) (sym c.is_newline.ensures.newline ∙ c.if-is_newline.true))

pub returns-then-not-trails_line-clause-end : goal.returns-then-not-trails_line-clause-end
returns-then-not-trails_line-clause-end g c =
    sym
    (c.loop-next.invariant.same
    ∙ line_stops c.args.tree.now.nodes c.args.tree.now.tree c.loop-next.last c.in-Some.next (sym c.next_sibling.ensures ∙ c.in-Some.is) (sym c.is_newline.ensures.newline ∙ c.if-is_newline.false) (sym c.trails_line.ensures ∙ c.if-not-trails_line.true))

pub loop-next-smaller : goal.loop-next-smaller
loop-next-smaller g c = after_fewer c.args.tree.now.nodes c.args.tree.now.tree c.loop-next.last c.in-Some.next (sym c.next_sibling.ensures ∙ c.in-Some.is)

pub loop-next-preserved : goal.loop-next-preserved
loop-next-preserved g c = record {
  same =
      c.loop-next.invariant.same
      ∙ line_goes_on c.args.tree.now.nodes c.args.tree.now.tree c.loop-next.last c.in-Some.next (sym c.next_sibling.ensures ∙ c.in-Some.is) (sym c.is_newline.ensures.newline ∙ c.if-is_newline.false)
      (sym c.trails_line.ensures ∙ c.if-not-trails_line.false);
  in_tree = next_there c.args.tree.now.nodes c.args.tree.now.tree c.loop-next.last c.in-Some.next (sym c.next_sibling.ensures ∙ c.in-Some.is);
}

pub returns-clause-end : goal.returns-clause-end
returns-clause-end g c = sym (c.loop-next.invariant.same ∙ line_over c.args.tree.now.nodes c.args.tree.now.tree c.loop-next.last (sym c.next_sibling.ensures ∙ c.in_default.is))
