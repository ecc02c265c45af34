use Rattle.jsonc_edit.proofs.SeamsParting.{tells_what_is_printed}
use Rattle.jsonc_edit.proofs.seam_laws.what_is_seen_is_printed.Goals as goal

pub returns : goal.returns
returns c = tells_what_is_printed
