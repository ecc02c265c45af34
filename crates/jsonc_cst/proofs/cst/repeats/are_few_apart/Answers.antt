use Rattle.std.proofs.Common.{[], ◌∙◌, ◌+◌, ◌<◌, arith, length, List, subst, sym}
use Rattle.std.specs.List.{All}
use Rattle.std.proofs.lemmas.List.Elements.{All-nil}
use Rattle.jsonc_layout.proofs.lemmas.nodes.Rows.{all_given, given_at}
use Rattle.jsonc_tree.specs.Tree.{children_at}
use Rattle.jsonc_cst.specs.RepeatedNames.{AreRepeated}
use Rattle.jsonc_cst.proofs.RepeatedNames.{next_apart, none_apart}
use Rattle.jsonc_cst.proofs.cst.repeats.are_few_apart.Goals as goal

pub loop-child-init : goal.loop-child-init
loop-child-init g c =
    let ns = c.args.tree.now.nodes in
    (0, c.into_iter-child-iterator.ensures.into_iter_gives ∙ c.children-child-items.ensures.children, none_apart ns c.new-passed.result.items, subst (All (λ n. n < length ns)) (sym c.new-passed.ensures) (All-nil (λ n. n < length ns)))

pub add_node-requires-clause-node : goal.add_node-requires-clause-node
add_node-requires-clause-node g c =
    let so_far = c.loop-child.invariant in
    let step = given_at so_far.0 (children_at c.args.tree.now.nodes c.args.object) c.loop-child.child-iterator c.in-Some.child c.next.new.self so_far.1 c.in-Some.ensures.steps in
    omega (arith, step.1, c.args.tree.now.tree.in_tree c.args.object so_far.0 step.0)

pub loop-child-preserved : goal.loop-child-preserved
loop-child-preserved g c =
    let ns = c.args.tree.now.nodes in
    let row : List _ = children_at ns c.args.object in
    let so_far = c.loop-child.invariant in
    let step = given_at so_far.0 row c.loop-child.child-iterator c.in-Some.child c.next.new.self so_far.1 c.in-Some.ensures.steps in
    (so_far.0 + 1, step.2, next_apart ns row so_far.0 c.in-Some.child c.loop-child.passed.items c.add_node.new.passed.items step.0 step.1 so_far.2 (c.add_node.ensures.apart c.if-not-add_node.false), c.add_node.ensures.in_tree)

pub returns : goal.returns
returns g c = λ t.
    let ns = c.args.tree.now.nodes in
    let row : List _ = children_at ns c.args.object in
    subst (λ l. AreRepeated ns l []) (all_given c.loop-child.invariant.0 row c.loop-child.child-iterator c.loop-child.invariant.1 c.in-None.ensures.steps.0) c.loop-child.invariant.2.apart
