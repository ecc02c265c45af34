use Rattle.std.proofs.Common.{◌≡◌, filter, slice_get}
use Rattle.jsonc_layout.specs.nodes.Kinds.{is_element_at}
use Rattle.jsonc_layout.specs.nodes.Siblings.{elements_at}
use Rattle.jsonc_layout.proofs.nodes.within.element_at.Given as goal

abbrev pub invariant-loop-candidate : goal.invariant-loop-candidate
invariant-loop-candidate g l =
    slice_get (elements_at l.tree.nodes l.node) l.place ≡ slice_get (filter (is_element_at l.tree.nodes) l.candidate-iterator) l.left
