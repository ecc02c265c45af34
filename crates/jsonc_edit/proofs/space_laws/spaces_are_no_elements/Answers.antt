use Rattle.jsonc_edit.proofs.InsertedSpaces.{elements_kept}
use Rattle.jsonc_edit.proofs.space_laws.spaces_are_no_elements.Goals as goal

pub returns : goal.returns
returns c = elements_kept
