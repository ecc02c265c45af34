use Rattle.jsonc_edit.proofs.LeavesAroundNodes.{spaces_stand_around}
use Rattle.jsonc_edit.proofs.seam_laws.spaces_stand_around.Goals as goal

pub returns : goal.returns
returns c = spaces_stand_around
