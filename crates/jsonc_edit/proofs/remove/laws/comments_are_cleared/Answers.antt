use Rattle.jsonc_edit.proofs.lemmas.remove.CommentsGone.{comments_gone}
use Rattle.jsonc_edit.proofs.remove.laws.comments_are_cleared.Goals as goal

pub returns : goal.returns
returns c = comments_gone
