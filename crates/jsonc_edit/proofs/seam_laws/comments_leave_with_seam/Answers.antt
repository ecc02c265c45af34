use Rattle.jsonc_edit.proofs.SeamsOfComments.{comment_has_seam}
use Rattle.jsonc_edit.proofs.seam_laws.comments_leave_with_seam.Goals as goal

pub returns : goal.returns
returns c = comment_has_seam
