use Rattle.jsonc_sound.proofs.SeamRows.{sound_with_stretch}
use Rattle.jsonc_sound.proofs.sound.documents_stay_sound_with_stretches.Goals as goal

pub returns : goal.returns
returns c = sound_with_stretch
