use Rattle.std.proofs.Common.{◌≡◌, ◌≤◌, length}
use Rattle.jsonc_tree.specs.Order.{following}
use Rattle.jsonc_tree.proofs.Order.{levels}
use Rattle.jsonc_layout.specs.lines.Walk.{HasCome}
use Rattle.jsonc_layout.proofs.lines.walk.next_past.Given as goal

abbrev pub invariant-loop-at : goal.invariant-loop-at
invariant-loop-at g l =
    let ns = l.tree.nodes in
    record {
      come : HasCome ns l.top l.at;
      depth : l.at.depth ≤ l.fn.from.depth;
      same : following ns l.top l.fn.from.node ≡ following ns l.top l.at.node;
    }

abbrev pub decreases-loop-at : goal.decreases-loop-at
decreases-loop-at g l = levels (length l.tree.nodes) l.tree.nodes l.at.node
