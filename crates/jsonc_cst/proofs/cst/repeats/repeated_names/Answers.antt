use Rattle.std.proofs.Common.{◌∙◌, sym, subst, arith, ◌+◌, List}
use Rattle.std.proofs.lemmas.Bool.{false≢true}
use Rattle.jsonc_layout.proofs.lemmas.nodes.Rows.{all_given, given_at}
use Rattle.jsonc_tree.specs.Tree.{children_at}
use Rattle.jsonc_cst.specs.RepeatedNames.{AreRepeated}
use Rattle.jsonc_cst.proofs.RepeatedNames.{no_names, next_names, repeats_earlier, none_repeated, next_fresh, next_repeated}
use Rattle.jsonc_cst.proofs.cst.repeats.repeated_names.Goals as goal

pub loop-child-init : goal.loop-child-init
loop-child-init g c =
    let ns = c.args.tree.now.nodes in
    (0, c.into_iter-child-iterator.ensures.into_iter_gives ∙ c.children-child-items.ensures.children, no_names ns c.new-seen.result.keys c.new-seen.ensures.empty, none_repeated ns c.new-found.result.items c.new-found.ensures.items)

pub repeats_name-requires : goal.repeats_name-requires
repeats_name-requires g c =
    let so_far = c.loop-child.invariant in
    let step = given_at so_far.0 (children_at c.args.tree.now.nodes c.args.object) c.loop-child.child-iterator c.in-Some.child c.next.new.self so_far.1 c.in-Some.ensures.steps in
    omega (arith, step.1, c.args.tree.now.tree.in_tree c.args.object so_far.0 step.0)

pub loop-child-preserved : goal.loop-child-preserved
loop-child-preserved g c =
    let ns = c.args.tree.now.nodes in
    let row : List _ = children_at ns c.args.object in
    let so_far = c.loop-child.invariant in
    let step = given_at so_far.0 row c.loop-child.child-iterator c.in-Some.child c.next.new.self so_far.1 c.in-Some.ensures.steps in
    let known = repeats_earlier ns _ c.in-Some.child c.loop-child.seen.keys so_far.2 c.in_ok-repeats_name.field-0 c.in_ok-repeats_name.ensures.repeats in (
      so_far.0 + 1,
      step.2,
      next_names ns row so_far.0 c.in-Some.child c.loop-child.seen.keys c.repeats_name.new.seen.keys step.0 step.1 so_far.2 c.in_ok-repeats_name.ensures.joined,
      next_fresh ns row so_far.0 c.in-Some.child c.loop-child.found.items step.0 step.1 so_far.3 (λ same. false≢true (sym c.if-branch.false ∙ known.1 same)),
    )

pub loop-child-preserved-in-Continue-branch-2 : goal.loop-child-preserved-in-Continue-branch-2
loop-child-preserved-in-Continue-branch-2 g c =
    let ns = c.args.tree.now.nodes in
    let row : List _ = children_at ns c.args.object in
    let so_far = c.loop-child.invariant in
    let step = given_at so_far.0 row c.loop-child.child-iterator c.in-Some.child c.next.new.self so_far.1 c.in-Some.ensures.steps in
    let known = repeats_earlier ns _ c.in-Some.child c.loop-child.seen.keys so_far.2 c.in_ok-repeats_name.field-0 c.in_ok-repeats_name.ensures.repeats in (
      so_far.0 + 1,
      step.2,
      next_names ns row so_far.0 c.in-Some.child c.loop-child.seen.keys c.repeats_name.new.seen.keys step.0 step.1 so_far.2 c.in_ok-repeats_name.ensures.joined,
      next_repeated ns row so_far.0 c.in-Some.child c.loop-child.found.items step.0 step.1 so_far.3 c.push.new.self.items (known.0 c.if-branch.true) c.in_ok-push.ensures.items,
    )

pub returns : goal.returns
returns g c =
    let ns = c.args.tree.now.nodes in
    let row : List _ = children_at ns c.args.object in
    record { repeated = subst (λ l. AreRepeated ns l c.loop-child.found.items) (all_given c.loop-child.invariant.0 row c.loop-child.child-iterator c.loop-child.invariant.1 c.in-None.ensures.steps.0) c.loop-child.invariant.3 }
