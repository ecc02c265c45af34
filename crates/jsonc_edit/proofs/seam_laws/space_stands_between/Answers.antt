use Rattle.jsonc_edit.proofs.LeavesAroundNodes.{space_stands_between}
use Rattle.jsonc_edit.proofs.seam_laws.space_stands_between.Goals as goal

pub returns : goal.returns
returns c = space_stands_between
