use Rattle.std.proofs.Common.{◌≡◌, map, sym, subst}
use Rattle.std.specs.List.{All}
use Rattle.jsonc_layout.specs.nodes.Comments.{ends_line, trailing_comments}
use Rattle.jsonc_layout.specs.nodes.Siblings.{siblings_after}
use Rattle.jsonc_cst.specs.Nodes.{comment_node, IsNodeOf}
use Rattle.jsonc_cst.specs.Readings.{comment_under}
use Rattle.jsonc_cst.proofs.Readings.{comments_held_if}
use Rattle.jsonc_cst.proofs.cst.navigation.TypedNode.trailing_comments_same_line.Goals as goal

pub returns-clause-in_document : goal.returns-clause-in_document
returns-clause-in_document g c =
    let ns = c.args.doc.now.tree.nodes in
    let n = c.number-number.result in
    let same : c.in-Ok-comments_under.comments.items ≡ map comment_under (trailing_comments ns n) = cc (c.in-Ok-comments_under.ensures, c.deref.ensures.value, c.in-Ok.ensures.comments) in
    subst (All (λ x. IsNodeOf ns (comment_node x))) (sym same) (comments_held_if ns (ends_line ns (siblings_after ns n)) (siblings_after ns n))
