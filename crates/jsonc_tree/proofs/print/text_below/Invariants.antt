use Rattle.std.proofs.Common.{◌≡◌, ℕ, ◌<◌, ◌++◌, length, string_bytes, vec_len, IfSome}
use Rattle.std.specs.List.{flat_map}
use Rattle.jsonc_tree.specs.Tree.{IsOver}
use Rattle.jsonc_tree.specs.Stored.{nodes_of}
use Rattle.jsonc_tree.specs.Order.{rest_at, text_at}
use Rattle.jsonc_tree.specs.OrderedTree.{printed, ordered_tree}
use Rattle.jsonc_tree.proofs.print.text_below.Given as goal

-- what is printed is what is out, and what is still to come
abbrev pub invariant-loop-next : goal.invariant-loop-next
invariant-loop-next g l =
    let ns = nodes_of l.nodes.items in
    record {
      in_tree : IfSome l.next (λ n. n < vec_len l.nodes);
      over : IfSome l.next (λ n. IsOver ns l.end n);
      out : printed (ordered_tree ns l.end) ≡ string_bytes l.out ++ flat_map (text_at ns) (rest_at ns l.end l.next);
    }

abbrev pub decreases-loop-next : goal.decreases-loop-next
decreases-loop-next g l = length (rest_at (nodes_of l.nodes.items) l.end l.next)
