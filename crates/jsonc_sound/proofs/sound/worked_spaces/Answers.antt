use Rattle.jsonc_sound.proofs.WorkedSpaces.{left_out, given_way, quoted}
use Rattle.jsonc_sound.proofs.sound.worked_spaces.Goals as goal

pub returns : goal.returns
returns c = (left_out, given_way, quoted)
