use Rattle.std.proofs.Common.{◌≡◌, ◌+◌, filter, length}
use Rattle.jsonc_layout.specs.nodes.Kinds.{is_element_at}
use Rattle.jsonc_layout.specs.nodes.Siblings.{siblings_before}
use Rattle.jsonc_layout.proofs.nodes.within.elements_before.Given as goal

abbrev pub invariant-loop-sibling : goal.invariant-loop-sibling
invariant-loop-sibling g l =
    let p = is_element_at l.tree.nodes in
    l.count + length (filter p l.sibling-iterator) ≡ length (filter p (siblings_before l.tree.nodes l.node))
