use Rattle.std.proofs.Common.{◌≡◌, drop}
use Rattle.jsonc_tree.specs.Tree.{children_at}
use Rattle.jsonc_layout.specs.nodes.Siblings.{AreThere}
use Rattle.jsonc_edit.specs.remove.Leaving.{comes_to}
use Rattle.jsonc_edit.proofs.remove.removing.comes_to.Given as goal

abbrev pub invariant-loop-child : goal.invariant-loop-child
invariant-loop-child g l = record {
  same : comes_to l.tree.nodes l.last (drop l.place (children_at l.tree.nodes l.container)) ≡ comes_to l.tree.nodes l.last l.child-iterator;
  rest : AreThere l.tree.nodes l.child-iterator;
}
