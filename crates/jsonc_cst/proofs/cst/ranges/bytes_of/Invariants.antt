use Rattle.std.proofs.Common.{◌<◌, length, IfSome}
use Rattle.jsonc_tree.specs.Tree.{IsOver}
use Rattle.jsonc_tree.specs.Order.{rest_at}
use Rattle.jsonc_cst.proofs.RangeWalk.{HasCounted}
use Rattle.jsonc_cst.proofs.cst.ranges.bytes_of.Given as goal

abbrev pub invariant-loop-next : goal.invariant-loop-next
invariant-loop-next g l = record {
  in_tree : IfSome l.next (λ n. n < length l.tree.nodes);
  over : IfSome l.next (λ n. IsOver l.tree.nodes l.node n);
  counted : HasCounted l.tree.nodes l.node l.count l.next;
}

abbrev pub decreases-loop-next : goal.decreases-loop-next
decreases-loop-next g l = length (rest_at l.tree.nodes l.node l.next)
