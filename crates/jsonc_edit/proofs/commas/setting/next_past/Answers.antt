use Rattle.std.proofs.Common.{◌∙◌, sym, ap}
use Rattle.jsonc_tree.specs.Order.{following}
use Rattle.jsonc_tree.proofs.Order.{following_end, levels_parent, over_step, parent_there}
use Rattle.jsonc_edit.proofs.lemmas.commas.ReachedContainers.{open_reached, to_parent, to_sibling}
use Rattle.jsonc_edit.proofs.commas.setting.next_past.Goals as goal

pub returns-in-Some-next_sibling-clause-next : goal.returns-in-Some-next_sibling-clause-next
returns-in-Some-next_sibling-clause-next g c =
    c.loop-at.invariant.same
    ∙ (to_sibling c.args.tree.now.nodes c.args.tree.now.tree c.args.end c.loop-at.at c.in-Some.parent c.in-Some-next_sibling.next c.loop-at.invariant.over c.loop-at.invariant.inside c.loop-at-test.true (sym c.in-Some.ensures) c.in-Some-next_sibling.ensures).rest

pub returns-in-Some-next_sibling-clause-in_tree : goal.returns-in-Some-next_sibling-clause-in_tree
returns-in-Some-next_sibling-clause-in_tree g c =
    (to_sibling c.args.tree.now.nodes c.args.tree.now.tree c.args.end c.loop-at.at c.in-Some.parent c.in-Some-next_sibling.next c.loop-at.invariant.over c.loop-at.invariant.inside c.loop-at-test.true (sym c.in-Some.ensures) c.in-Some-next_sibling.ensures).in_tree

pub returns-in-Some-next_sibling-clause-over : goal.returns-in-Some-next_sibling-clause-over
returns-in-Some-next_sibling-clause-over g c =
    (to_sibling c.args.tree.now.nodes c.args.tree.now.tree c.args.end c.loop-at.at c.in-Some.parent c.in-Some-next_sibling.next c.loop-at.invariant.over c.loop-at.invariant.inside c.loop-at-test.true (sym c.in-Some.ensures) c.in-Some-next_sibling.ensures).over

pub returns-in-Some-next_sibling-clause-inside : goal.returns-in-Some-next_sibling-clause-inside
returns-in-Some-next_sibling-clause-inside g c =
    (to_sibling c.args.tree.now.nodes c.args.tree.now.tree c.args.end c.loop-at.at c.in-Some.parent c.in-Some-next_sibling.next c.loop-at.invariant.over c.loop-at.invariant.inside c.loop-at-test.true (sym c.in-Some.ensures) c.in-Some-next_sibling.ensures).inside

pub loop-at-smaller : goal.loop-at-smaller
loop-at-smaller g c = levels_parent c.args.tree.now.nodes c.args.tree.now.tree c.loop-at.at c.in-Some.parent (sym c.in-Some.ensures)

pub loop-at-preserved : goal.loop-at-preserved
loop-at-preserved g c =
    let ns = c.args.tree.now.nodes in
    let tree = c.args.tree.now.tree in
    let said = sym c.in-Some.ensures in
    let inv = c.loop-at.invariant in
    record {
      in_tree = (parent_there ns tree c.loop-at.at c.in-Some.parent said).1;
      over = over_step ns tree c.args.end c.loop-at.at c.in-Some.parent inv.over c.loop-at-test.true said;
      inside = open_reached ns tree c.args.end c.in-Some.parent (inv.inside c.in-Some.parent c.loop-at-test.true said);
      same = inv.same ∙ to_parent ns tree c.args.end c.loop-at.at c.in-Some.parent c.loop-at-test.true said c.in_default-next_sibling.ensures;
    }

pub returns-clause-next : goal.returns-clause-next
returns-clause-next g c =
    let ns = c.args.tree.now.nodes in
    c.loop-at.invariant.same ∙ ap (λ k. following ns k c.loop-at.at) (sym c.loop-at-test.false) ∙ following_end ns c.args.tree.now.tree c.loop-at.at c.loop-at.invariant.in_tree
