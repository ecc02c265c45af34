use Rattle.std.proofs.Common.{◌∙◌, sym, ap, arith}
use Rattle.jsonc_tree.specs.Order.{following}
use Rattle.jsonc_tree.proofs.Order.{following_end, levels_parent}
use Rattle.jsonc_layout.proofs.lemmas.lines.WalkSteps.{beside, come_beside, come_up, not_top, up}
use Rattle.jsonc_layout.proofs.lines.walk.next_past.Goals as goal

pub returns-in-Some-next_sibling-clause-next : goal.returns-in-Some-next_sibling-clause-next
returns-in-Some-next_sibling-clause-next g c =
    c.loop-at.invariant.same
    ∙ beside c.args.tree.now.nodes c.args.tree.now.tree c.args.top c.loop-at.at c.in-Some.parent c.in-Some-next_sibling.next c.loop-at.invariant.come c.loop-at-test.true (sym c.in-Some.ensures) c.in-Some-next_sibling.ensures

pub returns-in-Some-next_sibling-clause-come : goal.returns-in-Some-next_sibling-clause-come
returns-in-Some-next_sibling-clause-come g c =
    come_beside c.args.tree.now.nodes c.args.tree.now.tree c.args.top c.loop-at.at c.in-Some.parent c.in-Some-next_sibling.next c.loop-at.invariant.come c.loop-at-test.true (sym c.in-Some.ensures) c.in-Some-next_sibling.ensures

pub overflow_sub-at : goal.overflow_sub-at
overflow_sub-at g c = not_top c.args.tree.now.nodes c.args.tree.now.tree c.args.top c.loop-at.at c.in-Some.parent c.loop-at.invariant.come c.loop-at-test.true (sym c.in-Some.ensures)

pub loop-at-smaller : goal.loop-at-smaller
loop-at-smaller g c = levels_parent c.args.tree.now.nodes c.args.tree.now.tree c.loop-at.at.node c.in-Some.parent (sym c.in-Some.ensures)

pub loop-at-preserved : goal.loop-at-preserved
loop-at-preserved g c =
    let ns = c.args.tree.now.nodes in
    let tree = c.args.tree.now.tree in
    let inv = c.loop-at.invariant in
    let said = sym c.in-Some.ensures in
    record {
      come = come_up ns tree c.args.top c.loop-at.at c.in-Some.parent inv.come c.loop-at-test.true said;
      depth = omega (arith, inv.depth);
      same = inv.same ∙ up ns tree c.args.top c.loop-at.at.node c.in-Some.parent c.loop-at-test.true said c.in_default-next_sibling.ensures;
    }

pub returns-clause-next : goal.returns-clause-next
returns-clause-next g c =
    let ns = c.args.tree.now.nodes in
    c.loop-at.invariant.same ∙ ap (λ k. following ns k c.loop-at.at.node) (sym c.loop-at-test.false) ∙ following_end ns c.args.tree.now.tree c.loop-at.at.node c.loop-at.invariant.come.in_tree
