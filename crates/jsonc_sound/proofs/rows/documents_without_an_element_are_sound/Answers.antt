use Rattle.jsonc_sound.proofs.SoundLeft.{sound_without_element}
use Rattle.jsonc_sound.proofs.rows.documents_without_an_element_are_sound.Goals as goal

pub returns : goal.returns
returns c = λ o t. sound_without_element o t
