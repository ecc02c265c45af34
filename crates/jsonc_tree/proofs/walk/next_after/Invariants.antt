use Rattle.std.proofs.Common.{◌≡◌, ◌<◌, length, vec_len}
use Rattle.jsonc_tree.specs.Tree.{IsOver}
use Rattle.jsonc_tree.specs.Order.{following}
use Rattle.jsonc_tree.proofs.Order.{levels}
use Rattle.jsonc_tree.specs.Stored.{nodes_of}
use Rattle.jsonc_tree.proofs.walk.next_after.Given as goal

abbrev pub invariant-loop-at : goal.invariant-loop-at
invariant-loop-at g l =
    let ns = nodes_of l.nodes.items in
    record {
      in_tree : l.at < vec_len l.nodes;
      over : IsOver ns l.end l.at;
      same : following ns l.end l.n ≡ following ns l.end l.at;
    }

abbrev pub decreases-loop-at : goal.decreases-loop-at
decreases-loop-at g l = levels (length (nodes_of l.nodes.items)) (nodes_of l.nodes.items) l.at
