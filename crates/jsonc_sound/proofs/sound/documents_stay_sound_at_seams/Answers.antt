use Rattle.jsonc_sound.proofs.Changed.{sound_at_seams}
use Rattle.jsonc_sound.proofs.sound.documents_stay_sound_at_seams.Goals as goal

pub returns : goal.returns
returns c = sound_at_seams
