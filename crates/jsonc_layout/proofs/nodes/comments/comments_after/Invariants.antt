use Rattle.std.proofs.Common.{◌≡◌, ◌++◌}
use Rattle.jsonc_layout.specs.nodes.Comments.{inline_comments}
use Rattle.jsonc_layout.specs.nodes.Siblings.{siblings_after}
use Rattle.jsonc_layout.proofs.nodes.comments.comments_after.Given as goal

abbrev pub invariant-loop-sibling : goal.invariant-loop-sibling
invariant-loop-sibling g l =
    let ns = l.tree.nodes in
    l.comments.items ++ inline_comments ns l.sibling-iterator ≡ inline_comments ns (siblings_after ns l.node)
