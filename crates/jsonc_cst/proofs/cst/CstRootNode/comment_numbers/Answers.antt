use Rattle.std.proofs.Common.{◌<◌, length, subst, sym}
use Rattle.std.specs.List.{All}
use Rattle.jsonc_cst.proofs.lemmas.comments.Entries.{numbers_there}
use Rattle.jsonc_cst.proofs.cst.CstRootNode.comment_numbers.Goals as goal

pub returns-in-Ok-clause-in_tree : goal.returns-in-Ok-clause-in_tree
returns-in-Ok-clause-in_tree g c =
    let ns = c.args.self.now.tree.nodes in
    subst (All (λ n. n < length ns)) (sym c.in-Ok.ensures) (numbers_there ns c.number-number.result)
