use Rattle.std.proofs.Common.{◌≡◌, ◌++◌}
use Rattle.jsonc_tree.specs.Tree.{children_at}
use Rattle.jsonc_layout.proofs.nodes.within.push_children.Given as goal

abbrev pub invariant-loop-child : goal.invariant-loop-child
invariant-loop-child g l = l.list.items ++ l.child-iterator ≡ l.fn.list.items ++ children_at l.tree.nodes l.node
