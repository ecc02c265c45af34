use Rattle.jsonc_sound.proofs.Booleans.{sound_with_boolean}
use Rattle.jsonc_sound.proofs.sound.booleans_give_way.Goals as goal

pub returns : goal.returns
returns c = λ o t. sound_with_boolean o t
