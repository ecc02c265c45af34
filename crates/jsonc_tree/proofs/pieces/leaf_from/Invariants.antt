use Rattle.std.proofs.Common.{◌≡◌, ◌<◌, length, vec_len, IfSome}
use Rattle.jsonc_tree.specs.Tree.{IsOver}
use Rattle.jsonc_tree.specs.Stored.{nodes_of}
use Rattle.jsonc_tree.specs.Order.{pieces_from, rest_at}
use Rattle.jsonc_tree.proofs.pieces.leaf_from.Given as goal

abbrev pub invariant-loop-next : goal.invariant-loop-next
invariant-loop-next g l =
    let ns = nodes_of l.nodes.items in
    record {
      in_tree : IfSome l.next (λ n. n < vec_len l.nodes);
      over : IfSome l.next (λ n. IsOver ns 0 n);
      same : pieces_from ns l.fn.from ≡ pieces_from ns l.next;
    }

abbrev pub decreases-loop-next : goal.decreases-loop-next
decreases-loop-next g l = length (rest_at (nodes_of l.nodes.items) 0 l.next)
