use Rattle.std.proofs.Common.{◌≡◌, slice_get}
use Rattle.jsonc_tree.specs.Tree.{children_at}
use Rattle.jsonc_tree.specs.Stored.{nodes_of}
use Rattle.jsonc_tree.proofs.walk.child_from.Given as goal

abbrev pub invariant-loop-i : goal.invariant-loop-i
invariant-loop-i g l = l.at ≡ slice_get (children_at (nodes_of l.nodes.items) l.c) l._i
