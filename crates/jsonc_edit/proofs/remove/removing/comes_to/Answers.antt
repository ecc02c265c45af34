use Rattle.std.proofs.Common.{sym, ◌∙◌}
use Rattle.jsonc_layout.proofs.lemmas.nodes.InTree.{rest_there}
use Rattle.jsonc_edit.proofs.lemmas.remove.Blanks.{comes_here, comes_on, comes_stops}
use Rattle.jsonc_edit.proofs.remove.removing.comes_to.Goals as goal

pub returns-then-is_node : goal.returns-then-is_node
returns-then-is_node g c =
    sym
    (c.loop-child.invariant.same
    ∙ comes_here c.args.tree.now.nodes c.in-Some.child c.loop-child.child-iterator c.next.new.self c.in-Some.ensures.steps c.args.last (sym c.is_node.ensures ∙ c.if-is_node.true))

pub returns-then-not-is_blank : goal.returns-then-not-is_blank
returns-then-not-is_blank g c =
    sym
    (c.loop-child.invariant.same
    ∙ comes_stops c.args.tree.now.nodes c.in-Some.child c.loop-child.child-iterator c.next.new.self c.in-Some.ensures.steps c.args.last (sym c.is_node.ensures ∙ c.if-is_node.false)
    (sym c.is_blank.ensures.blank ∙ c.if-not-is_blank.true))

pub loop-child-preserved : goal.loop-child-preserved
loop-child-preserved g c = record {
  same =
      c.loop-child.invariant.same
      ∙ comes_on c.args.tree.now.nodes c.in-Some.child c.loop-child.child-iterator c.next.new.self c.in-Some.ensures.steps c.args.last (sym c.is_node.ensures ∙ c.if-is_node.false)
      (sym c.is_blank.ensures.blank ∙ c.if-not-is_blank.false);
  rest = rest_there c.args.tree.now.nodes c.loop-child.child-iterator c.in-Some.child c.next.new.self c.in-Some.ensures.steps c.loop-child.invariant.rest;
}
