use Rattle.std.proofs.Common.{◌<◌, ◌+◌, arith, length}
use Rattle.jsonc_tree.specs.Tree.{itself, IsOver}
use Rattle.jsonc_cst.proofs.RangeWalk.{begins, byte_here, counted_all, goes_on, held, whole_size}
use Rattle.jsonc_cst.proofs.cst.ranges.leaf_at.Goals as goal

pub loop-next-init : goal.loop-next-init
loop-next-init g c = record {
  in_tree = c.args.tree.now.tree.first;
  over = itself;
  counted = (0, begins c.args.tree.now.nodes c.args.tree.now.tree 0 c.args.tree.now.tree.first, omega arith);
}

pub returns-then-left-length-clause-found : goal.returns-then-left-length-clause-found
returns-then-left-length-clause-found g c =
    let ns = c.args.tree.now.nodes in
    let w = c.loop-next.invariant.counted in
    byte_here ns c.args.tree.now.tree c.args.place c.loop-next.left w.0 c.in-Some.at c.loop-next.next _ c.own_length-length.result w.1 w.2 c.in-Some.is
    (held (IsOver ns 0) c.loop-next.next c.in-Some.at c.in-Some.is c.loop-next.invariant.over) (held (λ n. n < length ns) c.loop-next.next c.in-Some.at c.in-Some.is c.loop-next.invariant.in_tree) c.kind.ensures c.own_length-length.ensures c.if-left-length.true

pub loop-next-preserved : goal.loop-next-preserved
loop-next-preserved g c =
    let ns = c.args.tree.now.nodes in
    let w = c.loop-next.invariant.counted in
    record {
      in_tree = c.next_in_order-next.ensures.in_tree;
      over = c.next_in_order-next.ensures.over;
      counted = (
        w.0 + c.own_length-length.result,
        goes_on ns c.args.tree.now.tree 0 w.0 c.in-Some.at c.loop-next.next c.next_in_order-next.result _ c.own_length-length.result w.1 c.in-Some.is c.next_in_order-next.ensures.rest c.kind.ensures c.own_length-length.ensures,
        omega (arith, w.2, c.if-left-length.false),
      );
    }

pub returns-clause-none : goal.returns-clause-none
returns-clause-none g c =
    let w = c.loop-next.invariant.counted in
    omega (arith, w.2, counted_all c.args.tree.now.nodes c.args.tree.now.tree 0 w.0 c.loop-next.next w.1 c.in_default.is, whole_size c.args.tree.now.nodes c.args.tree.now.tree 0 c.args.tree.now.tree.first)
