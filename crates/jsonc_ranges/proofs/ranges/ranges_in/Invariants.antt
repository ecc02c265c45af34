use Rattle.std.proofs.Common.{◌<◌, ◌≡◌, length, vec_len, IfSome}
use Rattle.jsonc_tree.specs.Tree.{IsOver}
use Rattle.jsonc_tree.specs.Order.{rest_at}
use Rattle.jsonc_ranges.proofs.Noting.{Noted}
use Rattle.jsonc_ranges.proofs.ranges.ranges_in.Given as goal

abbrev pub invariant-loop-next : goal.invariant-loop-next
invariant-loop-next g l = record {
  in_tree : IfSome l.next (λ n. n < length l.tree.nodes);
  over : IfSome l.next (λ n. IsOver l.tree.nodes 0 n);
  size : vec_len l.ranges ≡ length l.tree.nodes;
  noted : Noted l.tree.nodes l.ranges.items l.at l.next;
}

abbrev pub decreases-loop-next : goal.decreases-loop-next
decreases-loop-next g l = length (rest_at l.tree.nodes 0 l.next)
