use Rattle.std.proofs.Common.{◌<◌, length, map, reverse, Some}
use Rattle.jsonc_tree.specs.Order.{upward}
use Rattle.jsonc_layout.specs.input.Views.{chars_of}
use Rattle.jsonc_cst.specs.Paths.{LeadsByNames}
use Rattle.jsonc_cst.proofs.NamePaths.{CoversByNames}
use Rattle.jsonc_cst.proofs.cst.paths.names_to.Given as goal

abbrev pub invariant-loop-alloc : goal.invariant-loop-alloc
invariant-loop-alloc g l = record {
  in_tree : l.value < length l.tree.nodes;
  leads : LeadsByNames l.tree.nodes l.node l.value (map chars_of (reverse l.names.items));
  covers : CoversByNames l.tree.nodes l.node l.value;
}

abbrev pub decreases-loop-alloc : goal.decreases-loop-alloc
decreases-loop-alloc g l = length (upward l.tree.nodes (Some l.value))
