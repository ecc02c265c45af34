use Rattle.std.proofs.Common.{◌<◌, arith, length, subst}
use Rattle.jsonc_tree.specs.Tree.{itself, IsOver}
use Rattle.jsonc_cst.specs.Ranges.{IsBefore}
use Rattle.jsonc_cst.proofs.RangeWalk.{HasCounted, begins, goes_on, held, is_ahead, no_more, right_sum, stands_at, still_ahead, too_large, whole_size}
use Rattle.jsonc_cst.proofs.cst.ranges.bytes_before.Goals as goal

pub loop-next-init : goal.loop-next-init
loop-next-init g c = record {
  in_tree = c.args.tree.now.tree.first;
  over = itself;
  counted = begins c.args.tree.now.nodes c.args.tree.now.tree 0 c.args.tree.now.tree.first;
  ahead = λ over. is_ahead c.args.tree.now.nodes c.args.tree.now.tree c.args.node c.requires over;
}

pub returns-then-at-node-clause-found : goal.returns-then-at-node-clause-found
returns-then-at-node-clause-found g c =
    let ns = c.args.tree.now.nodes in
    subst (λ n. IsBefore ns n c.loop-next.count) c.if-at-node.true
    (stands_at ns c.args.tree.now.tree c.loop-next.count c.in-Some.at c.loop-next.next c.loop-next.invariant.counted c.in-Some.is (held (IsOver ns 0) c.loop-next.next c.in-Some.at c.in-Some.is c.loop-next.invariant.over))

pub returns-in_default-checked_add-clause-none : goal.returns-in_default-checked_add-clause-none
returns-in_default-checked_add-clause-none g c =
    let ns = c.args.tree.now.nodes in
    let t = c.args.tree.now.tree in
    let here = held (λ n. n < length ns) c.loop-next.next c.in-Some.at c.in-Some.is c.loop-next.invariant.in_tree in
    let few = no_more ns t 0 c.loop-next.count c.in-Some.at c.loop-next.next _ c.own_length.result c.loop-next.invariant.counted c.in-Some.is here c.kind.ensures c.own_length.ensures in
    λ over.
    too_large c.checked_add.result c.loop-next.count c.own_length.result _ c.checked_add.ensures c.in_default-checked_add.is (omega (arith, few, whole_size ns t 0 t.first))

pub loop-next-preserved : goal.loop-next-preserved
loop-next-preserved g c =
    let ns = c.args.tree.now.nodes in
    let t = c.args.tree.now.tree in
    let counted = goes_on ns t 0 c.loop-next.count c.in-Some.at c.loop-next.next c.next_in_order-next.result _ c.own_length.result c.loop-next.invariant.counted c.in-Some.is c.next_in_order-next.ensures.rest c.kind.ensures c.own_length.ensures in
    record {
      in_tree = c.next_in_order-next.ensures.in_tree;
      over = c.next_in_order-next.ensures.over;
      counted = subst (λ n. HasCounted ns 0 n c.next_in_order-next.result) (right_sum c.checked_add.result c.loop-next.count c.own_length.result c.in-Some-checked_add.sum c.checked_add.ensures c.in-Some-checked_add.is) counted;
      ahead = λ over. still_ahead ns t c.args.node c.in-Some.at c.loop-next.next c.next_in_order-next.result (c.loop-next.invariant.ahead over) c.in-Some.is c.next_in_order-next.ensures.rest c.if-at-node.false;
    }
