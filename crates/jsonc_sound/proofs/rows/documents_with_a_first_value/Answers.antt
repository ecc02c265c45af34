use Rattle.jsonc_sound.proofs.FirstValue.{sound_with_first, has_first, marks_with_first}
use Rattle.jsonc_sound.proofs.rows.documents_with_a_first_value.Goals as goal

pub returns-clause-sound : goal.returns-clause-sound
returns-clause-sound c = sound_with_first

pub returns-clause-value : goal.returns-clause-value
returns-clause-value c = has_first

pub returns-clause-marks : goal.returns-clause-marks
returns-clause-marks c = marks_with_first
