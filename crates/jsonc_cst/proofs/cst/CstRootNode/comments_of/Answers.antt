use Rattle.std.proofs.Common.{◌≡◌, map, sym, subst, true}
use Rattle.std.specs.List.{All}
use Rattle.jsonc_cst.specs.EntryComments.{comments_at}
use Rattle.jsonc_cst.specs.Nodes.{comment_node, IsNodeOf}
use Rattle.jsonc_cst.specs.Readings.{comment_under}
use Rattle.jsonc_cst.proofs.lemmas.comments.Entries.{entry_held}
use Rattle.jsonc_cst.proofs.cst.CstRootNode.comments_of.Goals as goal

pub returns-clause-in_document : goal.returns-clause-in_document
returns-clause-in_document g c =
    let ns = c.args.self.now.tree.nodes in
    let n = c.number-number.result in
    let same : c.in-Ok-comments_under.comments.items ≡ map comment_under (comments_at ns n) = cc (c.in-Ok-comments_under.ensures, c.deref.ensures.value, c.in-Ok.ensures) in
    subst (All (λ x. IsNodeOf ns (comment_node x))) (sym same) (entry_held ns n true)
