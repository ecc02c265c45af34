use Rattle.jsonc_edit.proofs.lemmas.remove.ClearedComments.{ClearedSoFar}
use Rattle.jsonc_edit.proofs.remove.comments.clear_comments.Given as goal

abbrev pub invariant-loop-comment : goal.invariant-loop-comment
invariant-loop-comment g l = ClearedSoFar l.fn.tree.nodes l.tree.nodes l.container l.comments l.comment-index
