use Rattle.jsonc_sound.proofs.SpacePut.{kept_with_space}
use Rattle.jsonc_sound.proofs.sound.spaces_may_be_put.Goals as goal

pub returns : goal.returns
returns c = kept_with_space
