use Rattle.std.proofs.Common.{◌≡◌, ◌++◌}
use Rattle.std.specs.List.{take_while}
use Rattle.jsonc_layout.specs.nodes.Siblings.{siblings_after}
use Rattle.jsonc_cst.proofs.lemmas.comments.Gaps.{no_element}
use Rattle.jsonc_cst.proofs.cst.comments.gap_after.Given as goal

abbrev pub invariant-loop-sibling : goal.invariant-loop-sibling
invariant-loop-sibling g l =
    let ns = l.tree.nodes in
    l.gap.items ++ take_while (no_element ns) l.sibling-iterator ≡ take_while (no_element ns) (siblings_after ns l.node)
