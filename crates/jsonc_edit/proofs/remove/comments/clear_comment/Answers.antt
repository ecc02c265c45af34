use Rattle.jsonc_edit.proofs.lemmas.remove.ClearedComments.{stretch_cleared}
use Rattle.jsonc_edit.proofs.remove.comments.clear_comment.Goals as goal

pub remove_between-requires : goal.remove_between-requires
remove_between-requires g c =
    stretch_cleared c.args.tree.now.nodes c.args.tree.now.tree c.args.container c.args.comment c.requires c.first_blank-first.result c.last_cleared-last.result c.first_blank-first.ensures.child c.first_blank-first.ensures.before
    c.last_cleared-last.ensures
