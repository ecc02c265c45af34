use Rattle.jsonc_sound.proofs.WithoutValue.{sound_without, none_without, marks_without}
use Rattle.jsonc_sound.proofs.rows.documents_without_a_value.Goals as goal

pub returns-clause-sound : goal.returns-clause-sound
returns-clause-sound c = sound_without

pub returns-clause-value : goal.returns-clause-value
returns-clause-value c = none_without

pub returns-clause-marks : goal.returns-clause-marks
returns-clause-marks c = marks_without
