use Rattle.jsonc_sound.proofs.Followers.{value_ends}
use Rattle.jsonc_sound.proofs.changes.values_end_before_separators.Goals as goal

pub returns : goal.returns
returns c = λ o x r h s e. value_ends o s e h
