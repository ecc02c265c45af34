use Rattle.std.proofs.Common.{sym, ◌∙◌}
use Rattle.jsonc_edit.proofs.lemmas.remove.SiblingSteps.{after_fewer, next_there}
use Rattle.jsonc_edit.proofs.lemmas.commenting.Planned.{blank_goes_on, blank_over, blank_stops}
use Rattle.jsonc_edit.proofs.commenting.behind.last_blank.Goals as goal

pub returns-then-not-is_whitespace-clause-blank : goal.returns-then-not-is_whitespace-clause-blank
returns-then-not-is_whitespace-clause-blank g c =
    sym
    (c.loop-next.invariant.same
    ∙ blank_stops c.args.tree.now.nodes c.args.tree.now.tree c.loop-next.last c.in-Some.next (sym c.next_sibling.ensures ∙ c.in-Some.is) (sym c.is_whitespace.ensures.whitespace ∙ c.if-not-is_whitespace.true))

pub loop-next-smaller : goal.loop-next-smaller
loop-next-smaller g c = after_fewer c.args.tree.now.nodes c.args.tree.now.tree c.loop-next.last c.in-Some.next (sym c.next_sibling.ensures ∙ c.in-Some.is)

pub loop-next-preserved : goal.loop-next-preserved
loop-next-preserved g c = record {
  same =
      c.loop-next.invariant.same
      ∙ blank_goes_on c.args.tree.now.nodes c.args.tree.now.tree c.loop-next.last c.in-Some.next (sym c.next_sibling.ensures ∙ c.in-Some.is) (sym c.is_whitespace.ensures.whitespace ∙ c.if-not-is_whitespace.false);
  in_tree = next_there c.args.tree.now.nodes c.args.tree.now.tree c.loop-next.last c.in-Some.next (sym c.next_sibling.ensures ∙ c.in-Some.is);
}

pub returns-clause-blank : goal.returns-clause-blank
returns-clause-blank g c = sym (c.loop-next.invariant.same ∙ blank_over c.args.tree.now.nodes c.args.tree.now.tree c.loop-next.last (sym c.next_sibling.ensures ∙ c.in_default.is))
