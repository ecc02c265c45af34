use Rattle.std.proofs.Common.{◌≡◌, ℕ, drop, take}
use Rattle.jsonc_tree.specs.Tree.{children_at}
use Rattle.jsonc_cst.specs.RepeatedNames.{AreRepeated}
use Rattle.jsonc_cst.proofs.RepeatedNames.{AreNames}
use Rattle.jsonc_cst.proofs.cst.repeats.repeated_names.Given as goal

-- the loop has passed so many of the children
abbrev pub invariant-loop-child : goal.invariant-loop-child
invariant-loop-child g l =
    let row = children_at l.tree.nodes l.object in
    (k : ℕ) × (l.child-iterator ≡ drop k row) × AreNames l.tree.nodes (take k row) l.seen.keys × AreRepeated l.tree.nodes (take k row) l.found.items
