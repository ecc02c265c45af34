use Rattle.jsonc_sound.proofs.WorkedEdits.{kept_by_appending, kept_by_taking_out}
use Rattle.jsonc_sound.proofs.sound.worked_edits.Goals as goal

pub returns-clause-appended : goal.returns-clause-appended
returns-clause-appended c = λ o t. kept_by_appending o t

pub returns-clause-taken : goal.returns-clause-taken
returns-clause-taken c = λ o t. kept_by_taking_out o t
