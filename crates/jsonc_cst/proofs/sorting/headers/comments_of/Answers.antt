use Rattle.std.proofs.Common.{List, sym, subst}
use Rattle.std.specs.List.{All}
use Rattle.jsonc_cst.specs.declared.cst.node.CstComment.{CstComment}
use Rattle.jsonc_cst.specs.Document.{nodes_of}
use Rattle.jsonc_cst.proofs.lemmas.sorting.Commented.{IsCommentOf, comments_are_held}
use Rattle.jsonc_cst.proofs.sorting.headers.comments_of.Goals as goal

pub returns-clause-in_document : goal.returns-clause-in_document
returns-clause-in_document g c =
    let ns = nodes_of c.args.doc.now in
    subst (λ (xs : List CstComment). All (IsCommentOf ns) xs) (sym c.in-Ok-comments_at.ensures) (comments_are_held ns c.deref.result.now)
