use Rattle.std.proofs.Common.{◌≡◌, ◌≤◌, ◌-◌, length, slice_get}
use Rattle.jsonc_tree.specs.Tree.{children_at}
use Rattle.jsonc_tree.specs.Stored.{nodes_of}
use Rattle.jsonc_tree.proofs.walk.count_of.Given as goal

abbrev pub invariant-loop-at : goal.invariant-loop-at
invariant-loop-at g l =
    let row = children_at (nodes_of l.nodes.items) l.c in
    record {
      stands : l.at ≡ slice_get row l.count;
      within : l.count ≤ length row;
    }

abbrev pub decreases-loop-at : goal.decreases-loop-at
decreases-loop-at g l = length (children_at (nodes_of l.nodes.items) l.c) - l.count
