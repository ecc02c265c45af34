use Rattle.std.proofs.Common.{◌≡◌, ◌++◌, filter}
use Rattle.jsonc_layout.specs.nodes.Kinds.{is_element_at}
use Rattle.jsonc_layout.specs.nodes.Siblings.{elements_at}
use Rattle.jsonc_layout.proofs.nodes.within.elements.Given as goal

abbrev pub invariant-loop-child : goal.invariant-loop-child
invariant-loop-child g l = l.list.items ++ filter (is_element_at l.tree.nodes) l.child-iterator ≡ elements_at l.tree.nodes l.node
