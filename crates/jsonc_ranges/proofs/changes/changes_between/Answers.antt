use Rattle.std.proofs.Common.{◌<◌, ◌^◌, ◌∙◌, arith, length, refl}
use Rattle.jsonc_tree.specs.Tree.{itself}
use Rattle.jsonc_ranges.proofs.Walk.{walk_ends, walk_first, walk_on}
use Rattle.jsonc_ranges.proofs.changes.changes_between.Goals as goal

pub loop-next-init : goal.loop-next-init
loop-next-init g c = record {
  in_tree = c.args.tree.now.tree.first;
  over = itself;
  walked = walk_first c.args.ranges.now c.args.tree.now.nodes c.args.tree.now.tree c.args.old.now c.args.new.now c.utf8.old c.utf8.new (record { old = 0; new = 0 }) c.new-changes.result.items refl c.new-changes.ensures.items;
}

pub loop-next-preserved : goal.loop-next-preserved
loop-next-preserved g c =
    let few : length c.args.new.now < 2 ^ 64 = omega arith in
    let small : c.loop-next.at < 2 ^ 64 = omega arith in
    record {
      in_tree = c.next_in_order-next.ensures.in_tree;
      over = c.next_in_order-next.ensures.over;
      walked = walk_on c.args.ranges.now c.args.tree.now.nodes c.args.tree.now.tree c.args.old.now c.args.new.now c.utf8.old c.utf8.new c.loop-next.at c.in-Some.n c.loop-next.next
          c.next_in_order-next.result _ c.own_length.result c.loop-next.done c.in_ok-done.done c.new-own.result c.range_at.result c.loop-next.changes.items c.pass_leaf.new.changes.items few small
          c.loop-next.invariant.walked c.in-Some.is c.next_in_order-next.ensures.rest c.kind.ensures c.own_length.ensures c.new-own.ensures.start (c.new-own.ensures.end ∙ c.saturating_add.ensures)
          c.range_at.ensures c.in_ok-done.ensures;
    }

pub returns : goal.returns
returns g c =
    walk_ends c.args.ranges.now c.args.tree.now.nodes c.args.tree.now.tree c.args.old.now c.args.new.now c.utf8.old c.utf8.new c.loop-next.at c.loop-next.next c.loop-next.done
    c.new-range.result c.new-written.result c.loop-next.changes.items c.push_change.new.changes.items c.loop-next.invariant.walked c.in_default.is c.new-range.ensures.start c.new-range.ensures.end
    c.new-written.ensures.start c.new-written.ensures.end c.in_ok-push_change.ensures
