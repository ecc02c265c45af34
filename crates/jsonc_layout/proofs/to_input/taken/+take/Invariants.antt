use Rattle.std.proofs.Common.{◌≡◌, ◌+◌, ◌*◌, ℕ, drop, take}
use Rattle.jsonc_tree.specs.Tree.{children_at}
use Rattle.jsonc_layout.specs.to_input.Taken.{AreTaken, AreMembersTaken}
use Rattle.jsonc_layout.proofs.lemmas.to_input.Descendants.{count_at}
use Rattle.jsonc_layout.proofs.to_input.taken.+take.Given as goal

abbrev pub decreases-take : goal.decreases-take
decreases-take g l = 3 * count_at l.tree.now.nodes l.node + 1

abbrev pub decreases-take_held : goal.decreases-take_held
decreases-take_held g l = 3 * count_at l.tree.now.nodes l.node

abbrev pub decreases-take_elements : goal.decreases-take_elements
decreases-take_elements g l = 3 * count_at l.tree.now.nodes l.array

abbrev pub decreases-take_properties : goal.decreases-take_properties
decreases-take_properties g l = 3 * count_at l.tree.now.nodes l.object

abbrev pub decreases-take_property : goal.decreases-take_property
decreases-take_property g l = 3 * count_at l.tree.now.nodes l.child + 2

-- so many of the row are behind the loop
abbrev pub invariant-take_elements-loop-child : goal.invariant-take_elements-loop-child
invariant-take_elements-loop-child g l =
    let row = children_at l.tree.nodes l.array in
    (k : ℕ) × (l.child-iterator ≡ drop k row) × AreTaken l.tree.nodes (take k row) l.elements.items

abbrev pub invariant-take_properties-loop-child : goal.invariant-take_properties-loop-child
invariant-take_properties-loop-child g l =
    let row = children_at l.tree.nodes l.object in
    (k : ℕ) × (l.child-iterator ≡ drop k row) × AreMembersTaken l.tree.nodes (take k row) l.properties.entries
