use Rattle.std.proofs.Common.{◌<◌, length, IfSome}
use Rattle.jsonc_tree.specs.Tree.{IsOver}
use Rattle.jsonc_tree.specs.Order.{rest_at}
use Rattle.jsonc_ranges.proofs.Walk.{Walked}
use Rattle.jsonc_ranges.proofs.changes.changes_between.Given as goal

abbrev pub invariant-loop-next : goal.invariant-loop-next
invariant-loop-next g l = record {
  in_tree : IfSome l.next (λ n. n < length l.tree.nodes);
  over : IfSome l.next (λ n. IsOver l.tree.nodes 0 n);
  walked : Walked l.ranges l.tree.nodes l.old l.new l.done l.at l.next l.changes.items;
}

abbrev pub decreases-loop-next : goal.decreases-loop-next
decreases-loop-next g l = length (rest_at l.tree.nodes 0 l.next)
