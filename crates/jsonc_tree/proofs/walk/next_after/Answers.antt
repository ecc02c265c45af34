use Rattle.std.proofs.Common.{arith, ap, sym, ◌∙◌, List}
use Rattle.jsonc_tree.specs.Tree as tree
use Rattle.jsonc_tree.specs.Tree.{children_at, parent_at, place_at, IsOver, above}
use Rattle.jsonc_tree.specs.Order.{following, rest_at}
use Rattle.jsonc_tree.proofs.Order.{parent_there, following_end, following_up, following_next, levels_parent, over_step}
use Rattle.std.proofs.Common.{Some}
use Rattle.jsonc_tree.specs.Stored.{nodes_of}
use Rattle.jsonc_tree.proofs.AgreeingLinks.{length_shown}
use Rattle.jsonc_tree.proofs.LinkSteps.{next_place, next_none}
use Rattle.jsonc_tree.proofs.walk.next_after.Goals as goal

pub returns-in-Some-next_of-clause-next : goal.returns-in-Some-next_of-clause-next
returns-in-Some-next_of-clause-next g c =
    let ns : List tree.Node = nodes_of c.args.nodes.now.items in
    let stands = next_place c.args.nodes.now.items c.requires.stored c.loop-at.at c.in-Some.parent c.in-Some-next_of.next (sym c.in-Some.ensures) (sym c.in-Some-next_of.ensures) in
    c.loop-at.invariant.same
    ∙ following_next ns c.requires.stored.tree c.args.end c.loop-at.at c.in-Some.parent c.loop-at-test.true c.loop-at.invariant.over (sym c.in-Some.ensures) stands.0
    ∙ ap (λ m. rest_at ns c.args.end (Some m)) stands.1

pub returns-in-Some-next_of-clause-in_tree : goal.returns-in-Some-next_of-clause-in_tree
returns-in-Some-next_of-clause-in_tree g c =
    let stands = next_place c.args.nodes.now.items c.requires.stored c.loop-at.at c.in-Some.parent c.in-Some-next_of.next (sym c.in-Some.ensures) (sym c.in-Some-next_of.ensures) in
    omega (arith, stands.2, length_shown c.args.nodes.now.items, c.args.nodes.now.ok.0)

pub returns-in-Some-next_of-clause-over : goal.returns-in-Some-next_of-clause-over
returns-in-Some-next_of-clause-over g c =
    let stands = next_place c.args.nodes.now.items c.requires.stored c.loop-at.at c.in-Some.parent c.in-Some-next_of.next (sym c.in-Some.ensures) (sym c.in-Some-next_of.ensures) in
    above stands.3 (over_step (nodes_of c.args.nodes.now.items) c.requires.stored.tree c.args.end c.loop-at.at c.in-Some.parent c.loop-at.invariant.over c.loop-at-test.true (sym c.in-Some.ensures))

pub loop-at-smaller : goal.loop-at-smaller
loop-at-smaller g c = levels_parent (nodes_of c.args.nodes.now.items) c.requires.stored.tree c.loop-at.at c.in-Some.parent (sym c.in-Some.ensures)

pub loop-at-preserved : goal.loop-at-preserved
loop-at-preserved g c =
    let ns : List tree.Node = nodes_of c.args.nodes.now.items in
    let there = parent_there ns c.requires.stored.tree c.loop-at.at c.in-Some.parent (sym c.in-Some.ensures) in
    record {
      in_tree = omega (arith, there.1, length_shown c.args.nodes.now.items, c.args.nodes.now.ok.0);
      over = over_step ns c.requires.stored.tree c.args.end c.loop-at.at c.in-Some.parent c.loop-at.invariant.over c.loop-at-test.true (sym c.in-Some.ensures);
      same = c.loop-at.invariant.same ∙ following_up ns c.requires.stored.tree c.args.end c.loop-at.at c.in-Some.parent c.loop-at-test.true (sym c.in-Some.ensures) (next_none c.args.nodes.now.items c.requires.stored c.loop-at.at c.in-Some.parent (sym c.in-Some.ensures) (sym c.in_default-next_of.ensures));
    }

pub returns-clause-next : goal.returns-clause-next
returns-clause-next g c =
    let ns : List tree.Node = nodes_of c.args.nodes.now.items in
    c.loop-at.invariant.same
    ∙ ap (λ k. following ns k c.loop-at.at) (sym c.loop-at-test.false)
    ∙ following_end ns c.requires.stored.tree c.loop-at.at (omega (arith, c.loop-at.invariant.in_tree, length_shown c.args.nodes.now.items, c.args.nodes.now.ok.0))
