use Rattle.std.proofs.Common.{◌<◌, length, subst}
use Rattle.jsonc_tree.specs.Tree.{itself}
use Rattle.jsonc_cst.proofs.RangeWalk.{HasCounted, begins, goes_on, held, no_more, right_sum, too_large}
use Rattle.jsonc_cst.proofs.cst.ranges.bytes_of.Goals as goal

pub loop-next-init : goal.loop-next-init
loop-next-init g c = record { in_tree = c.requires; over = itself; counted = begins c.args.tree.now.nodes c.args.tree.now.tree c.args.node c.requires }

pub returns-in_default-checked_add-clause-none : goal.returns-in_default-checked_add-clause-none
returns-in_default-checked_add-clause-none g c =
    let ns = c.args.tree.now.nodes in
    let here = held (λ n. n < length ns) c.loop-next.next c.in-Some.at c.in-Some.is c.loop-next.invariant.in_tree in
    too_large c.checked_add.result c.loop-next.count c.own_length.result _ c.checked_add.ensures c.in_default-checked_add.is
    (no_more ns c.args.tree.now.tree c.args.node c.loop-next.count c.in-Some.at c.loop-next.next _ c.own_length.result c.loop-next.invariant.counted c.in-Some.is here c.kind.ensures c.own_length.ensures)

pub loop-next-preserved : goal.loop-next-preserved
loop-next-preserved g c =
    let ns = c.args.tree.now.nodes in
    let counted = goes_on ns c.args.tree.now.tree c.args.node c.loop-next.count c.in-Some.at c.loop-next.next c.next_in_order-next.result _ c.own_length.result c.loop-next.invariant.counted c.in-Some.is c.next_in_order-next.ensures.rest c.kind.ensures c.own_length.ensures in
    record {
      in_tree = c.next_in_order-next.ensures.in_tree;
      over = c.next_in_order-next.ensures.over;
      counted = subst (λ n. HasCounted ns c.args.node n c.next_in_order-next.result) (right_sum c.checked_add.result c.loop-next.count c.own_length.result c.in-Some-checked_add.sum c.checked_add.ensures c.in-Some-checked_add.is) counted;
    }
