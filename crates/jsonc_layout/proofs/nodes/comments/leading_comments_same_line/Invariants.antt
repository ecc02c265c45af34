use Rattle.std.proofs.Common.{◌≡◌, ◌++◌}
use Rattle.jsonc_layout.specs.nodes.Comments.{inline_comments}
use Rattle.jsonc_layout.specs.nodes.Siblings.{siblings_before}
use Rattle.jsonc_layout.proofs.nodes.comments.leading_comments_same_line.Given as goal

abbrev pub invariant-loop-sibling : goal.invariant-loop-sibling
invariant-loop-sibling g l =
    let ns = l.tree.nodes in
    l.comments.items ++ inline_comments ns l.sibling-iterator ≡ inline_comments ns (siblings_before ns l.node)
