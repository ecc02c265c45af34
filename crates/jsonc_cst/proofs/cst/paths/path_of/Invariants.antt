use Rattle.std.proofs.Common.{◌<◌, length, reverse, Some}
use Rattle.jsonc_tree.specs.Order.{upward}
use Rattle.jsonc_edit.specs.Paths.{LeadsTo}
use Rattle.jsonc_cst.proofs.NodePaths.{Covers}
use Rattle.jsonc_cst.proofs.cst.paths.path_of.Given as goal

abbrev pub invariant-loop-first : goal.invariant-loop-first
invariant-loop-first g l = record {
  in_tree : l.value < length l.tree.nodes;
  leads : LeadsTo l.tree.nodes l.node l.value (reverse l.path.items);
  covers : Covers l.tree.nodes l.node l.value;
}

abbrev pub decreases-loop-first : goal.decreases-loop-first
decreases-loop-first g l = length (upward l.tree.nodes (Some l.value))
