use Rattle.std.proofs.Common.{◌≡◌, ◌≤◌, ◌-◌}
use Rattle.jsonc_tree.specs.Tree.{parent_at, place_at}
use Rattle.jsonc_tree.specs.Stored.{nodes_of}
use Rattle.jsonc_tree.specs.Siblings.{before}
use Rattle.jsonc_tree.proofs.LinkSteps.{row_under}
use Rattle.jsonc_tree.proofs.walk.place_of.Given as goal

abbrev pub invariant-loop-at : goal.invariant-loop-at
invariant-loop-at g l =
    let ns = nodes_of l.nodes.items in
    record {
      stands : l.at ≡ before (row_under ns (parent_at ns l.n)) (place_at ns l.n - l.count);
      within : l.count ≤ place_at ns l.n;
    }

abbrev pub decreases-loop-at : goal.decreases-loop-at
decreases-loop-at g l = place_at (nodes_of l.nodes.items) l.n - l.count
