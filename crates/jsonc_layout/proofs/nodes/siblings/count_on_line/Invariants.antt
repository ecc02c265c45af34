use Rattle.std.proofs.Common.{◌≡◌, ◌+◌}
use Rattle.std.specs.List.{prefix_len}
use Rattle.jsonc_layout.specs.nodes.Siblings.{is_no_newline_at, siblings_before}
use Rattle.jsonc_layout.proofs.nodes.siblings.count_on_line.Given as goal

abbrev pub invariant-loop-sibling : goal.invariant-loop-sibling
invariant-loop-sibling g l =
    let p = is_no_newline_at l.tree.nodes in
    l.count + prefix_len p l.sibling-iterator ≡ prefix_len p (siblings_before l.tree.nodes l.node)
