use Rattle.jsonc_edit.proofs.UnneededSpaces.{none_due}
use Rattle.jsonc_edit.proofs.space_laws.no_further_space_is_due.Goals as goal

pub returns : goal.returns
returns c = λ old new n content tree spaced bare. none_due old new n tree content spaced bare
