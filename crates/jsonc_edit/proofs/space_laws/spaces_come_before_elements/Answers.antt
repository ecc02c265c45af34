use Rattle.jsonc_edit.proofs.InsertedSpaces.{puts_space}
use Rattle.jsonc_edit.proofs.space_laws.spaces_come_before_elements.Goals as goal

pub returns : goal.returns
returns c = λ old new n space tree stands over element behind. puts_space old new n space tree stands element behind over
