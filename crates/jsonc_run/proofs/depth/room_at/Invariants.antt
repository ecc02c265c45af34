use Rattle.std.proofs.Common.{◌≡◌, ◌<◌, ◌+◌, IfSome, count_by, length}
use Rattle.jsonc_tree.specs.Order.{upward}
use Rattle.jsonc_tree.proofs.Order.{levels, one_more}
use Rattle.jsonc_run.specs.Depth.{is_nesting_at, nesting_at}
use Rattle.jsonc_run.proofs.depth.room_at.Given as goal

abbrev pub invariant-loop-next : goal.invariant-loop-next
invariant-loop-next g l =
    let ns = l.tree.nodes in
    record {
      in_tree : IfSome l.next (λ m. m < length ns);
      room : nesting_at ns l.node + l.room ≡ 512 + count_by (is_nesting_at ns) (upward ns l.next);
    }

abbrev pub decreases-loop-next : goal.decreases-loop-next
decreases-loop-next g l = one_more l.next (levels (length l.tree.nodes) l.tree.nodes)
