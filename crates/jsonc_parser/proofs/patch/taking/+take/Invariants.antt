use Rattle.std.proofs.Common.{◌≡◌, ◌+◌, ◌*◌, ℕ, drop, take}
use Rattle.jsonc_tree.specs.Tree.{children_at}
use Rattle.jsonc_layout.proofs.lemmas.to_input.Descendants.{count_at}
use Rattle.jsonc_parser.specs.patch.Taking.{RowGives, RowGivesMembers}
use Rattle.jsonc_parser.proofs.patch.taking.+take.Given as goal

abbrev pub decreases-take : goal.decreases-take
decreases-take g l = 3 * count_at l.tree.now.nodes l.node + 1

abbrev pub decreases-take_held : goal.decreases-take_held
decreases-take_held g l = 3 * count_at l.tree.now.nodes l.node

abbrev pub decreases-take_elements : goal.decreases-take_elements
decreases-take_elements g l = 3 * count_at l.tree.now.nodes l.array

abbrev pub decreases-take_members : goal.decreases-take_members
decreases-take_members g l = 3 * count_at l.tree.now.nodes l.object

abbrev pub decreases-take_member : goal.decreases-take_member
decreases-take_member g l = 3 * count_at l.tree.now.nodes l.child + 2

-- so many of the row are behind the loop
abbrev pub invariant-take_elements-loop-child : goal.invariant-take_elements-loop-child
invariant-take_elements-loop-child g l =
    let row = children_at l.tree.nodes l.array in
    (k : ℕ) × (l.child-iterator ≡ drop k row) × RowGives l.tree.nodes (take k row) l.elements.items

abbrev pub invariant-take_members-loop-child : goal.invariant-take_members-loop-child
invariant-take_members-loop-child g l =
    let row = children_at l.tree.nodes l.object in
    (k : ℕ) × (l.child-iterator ≡ drop k row) × RowGivesMembers l.tree.nodes (take k row) l.members.items
