use Rattle.std.proofs.Common.{◌≡◌, ◌≤◌, ◌-◌, [], Some, vec_len}
use Rattle.jsonc_tree.specs.Tree.{parent_at, place_at}
use Rattle.jsonc_tree.specs.Changes.{Splices}
use Rattle.jsonc_tree.specs.Stored.{nodes_of, IsStored}
use Rattle.jsonc_tree.proofs.splice.take_between.Given as goal

abbrev pub invariant-loop-at : goal.invariant-loop-at
invariant-loop-at g l =
    let old = nodes_of l.fn.nodes.items in
    record {
      splices : Splices old (nodes_of l.nodes.items) l.c (place_at old l.first) (place_at old l.at) [];
      child : parent_at old l.at ≡ Some l.c;
      from : place_at old l.first ≤ place_at old l.at;
      to : place_at old l.at ≤ place_at old l.last;
      stored : IsStored l.nodes.items;
      len : vec_len l.nodes ≡ vec_len l.fn.nodes;
    }

abbrev pub decreases-loop-at : goal.decreases-loop-at
decreases-loop-at g l = place_at (nodes_of l.fn.nodes.items) l.last - place_at (nodes_of l.fn.nodes.items) l.at
