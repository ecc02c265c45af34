use Rattle.jsonc_edit.proofs.SeamsGiving.{has_seams}
use Rattle.jsonc_edit.proofs.seam_laws.values_give_way_with_seams.Goals as goal

pub returns : goal.returns
returns c = has_seams
