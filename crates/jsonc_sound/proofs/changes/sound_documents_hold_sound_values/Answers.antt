use Rattle.jsonc_sound.proofs.HeldValues.{sound_value}
use Rattle.jsonc_sound.proofs.changes.sound_documents_hold_sound_values.Goals as goal

pub returns : goal.returns
returns c = λ o t s was now path u d. sound_value o s d
