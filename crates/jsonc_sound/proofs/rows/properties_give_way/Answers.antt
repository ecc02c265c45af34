use Rattle.jsonc_sound.proofs.GivenProperties.{sound_with_property, members_with_property, value_with_property, marks_with_property}
use Rattle.jsonc_sound.proofs.rows.properties_give_way.Goals as goal

pub returns-clause-sound : goal.returns-clause-sound
returns-clause-sound c = sound_with_property

pub returns-clause-members : goal.returns-clause-members
returns-clause-members c = members_with_property

pub returns-clause-document : goal.returns-clause-document
returns-clause-document c = value_with_property

pub returns-clause-marks : goal.returns-clause-marks
returns-clause-marks c = marks_with_property
