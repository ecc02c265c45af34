use Rattle.std.proofs.Common.{◌≡◌, ◌<◌, length}
use Rattle.jsonc_layout.specs.nodes.Siblings.{AreThere, siblings_before}
use Rattle.jsonc_edit.specs.remove.Leaving.{outermost}
use Rattle.jsonc_edit.proofs.remove.leaving.first_gone.Given as goal

abbrev pub invariant-loop-sibling : goal.invariant-loop-sibling
invariant-loop-sibling g l = record {
  same : outermost l.tree.nodes l.node (siblings_before l.tree.nodes l.node) ≡ outermost l.tree.nodes l.first l.sibling-iterator;
  in_tree : l.first < length l.tree.nodes;
  rest : AreThere l.tree.nodes l.sibling-iterator;
}
