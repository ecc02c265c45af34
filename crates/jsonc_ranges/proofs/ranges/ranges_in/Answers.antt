use Rattle.std.proofs.Common.{◌<◌, ◌∙◌, arith, length, refl}
use Rattle.jsonc_tree.specs.Tree.{IsOver, itself}
use Rattle.jsonc_cst.proofs.RangeWalk.{held}
use Rattle.jsonc_ranges.proofs.Noting.{noted_first, noted_on}
use Rattle.jsonc_ranges.proofs.ranges.ranges_in.Goals as goal

pub loop-next-init : goal.loop-next-init
loop-next-init g c = record {
  in_tree = c.args.tree.now.tree.first;
  over = itself;
  size = c.in_ok-ranges.ensures.len ∙ c.len.ensures.len;
  noted = noted_first c.args.tree.now.nodes c.args.tree.now.tree c.in_ok-ranges.ranges.items;
}

pub loop-next-preserved : goal.loop-next-preserved
loop-next-preserved g c =
    let ns = c.args.tree.now.nodes in
    let there = held (λ n. n < length ns) c.loop-next.next c.in-Some.n c.in-Some.is c.loop-next.invariant.in_tree in
    let over = held (IsOver ns 0) c.loop-next.next c.in-Some.n c.in-Some.is c.loop-next.invariant.over in
    record {
      in_tree = c.next_in_order-next.ensures.in_tree;
      over = c.next_in_order-next.ensures.over;
      size = c.loop-next.invariant.size;
      noted = noted_on ns c.args.tree.now.tree c.loop-next.ranges.items _ c.loop-next.at c.in-Some.n c.saturating_add-end.result c.loop-next.next c.next_in_order-next.result _ c.own_length.result
          c.new-in-Some.result c.loop-next.invariant.noted c.in-Some.is there over c.next_in_order-next.ensures.rest c.kind.ensures c.own_length.ensures c.saturating_add-end.ensures
          c.new-in-Some.ensures.start c.new-in-Some.ensures.end (omega (arith, there, c.loop-next.invariant.size, c.loop-next.ranges.ok.0)) refl;
    }
