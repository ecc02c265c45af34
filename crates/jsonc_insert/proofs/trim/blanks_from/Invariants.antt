use Rattle.std.proofs.Common.{◌≡◌, ◌∷◌, ◌++◌}
use Rattle.std.specs.List.{take_while}
use Rattle.jsonc_tree.specs.Siblings.{siblings_after}
use Rattle.jsonc_layout.specs.nodes.Kinds.{is_blank_at}
use Rattle.jsonc_insert.proofs.trim.blanks_from.Given as goal

abbrev pub invariant-loop-sibling : goal.invariant-loop-sibling
invariant-loop-sibling g l = l.row.items ++ take_while (is_blank_at l.tree.nodes) l.sibling-iterator ≡ l.node ∷ take_while (is_blank_at l.tree.nodes) (siblings_after l.tree.nodes l.node)
