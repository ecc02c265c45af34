use Rattle.std.proofs.Common.{refl, length, sym, ap, ◌∙◌}
use Rattle.jsonc_tree.specs.Order.{upward}
use Rattle.jsonc_tree.proofs.Order.{parent_within}
use Rattle.jsonc_layout.specs.nodes.Kinds.{is_property}
use Rattle.jsonc_layout.specs.lines.Indents.{beyond_properties}
use Rattle.jsonc_layout.proofs.lemmas.lines.NodesAbove.{beyond_here, beyond_none, beyond_on, climb_smaller}
use Rattle.jsonc_layout.proofs.lines.indents.beyond_properties.Goals as goal

pub loop-next-init : goal.loop-next-init
loop-next-init g c =
    let ns = c.args.tree.now.nodes in
    record {
      in_tree = parent_within ns c.args.tree.now.tree c.args.node (length ns) c.parent-next.result c.parent-next.ensures refl;
      same = ap (λ o. beyond_properties ns (upward ns o)) (sym c.parent-next.ensures);
    }

pub returns-then-not-is_property_kind-clause-above : goal.returns-then-not-is_property_kind-clause-above
returns-then-not-is_property_kind-clause-above g c =
    let ns = c.args.tree.now.nodes in
    let other = ap is_property (sym c.kind.ensures) ∙ sym c.is_property_kind.ensures ∙ c.if-not-is_property_kind.true in
    c.loop-next.invariant.same ∙ beyond_here ns c.args.tree.now.tree c.loop-next.next c.in-Some.at c.in-Some.is c.loop-next.invariant.in_tree other

pub loop-next-smaller : goal.loop-next-smaller
loop-next-smaller g c = climb_smaller c.args.tree.now.nodes c.args.tree.now.tree c.loop-next.next c.in-Some.at c.parent-next-in-Some.result c.in-Some.is c.parent-next-in-Some.ensures

pub loop-next-preserved : goal.loop-next-preserved
loop-next-preserved g c =
    let ns = c.args.tree.now.nodes in
    let over = ap is_property (sym c.kind.ensures) ∙ sym c.is_property_kind.ensures ∙ c.if-not-is_property_kind.false in
    record {
      in_tree = parent_within ns c.args.tree.now.tree c.in-Some.at (length ns) c.parent-next-in-Some.result c.parent-next-in-Some.ensures refl;
      same = c.loop-next.invariant.same ∙ beyond_on ns c.args.tree.now.tree c.loop-next.next c.in-Some.at c.parent-next-in-Some.result c.in-Some.is c.loop-next.invariant.in_tree c.parent-next-in-Some.ensures over;
    }

pub returns-clause-above : goal.returns-clause-above
returns-clause-above g c = c.loop-next.invariant.same ∙ beyond_none c.args.tree.now.nodes c.args.tree.now.tree c.loop-next.next c.in_default.is
