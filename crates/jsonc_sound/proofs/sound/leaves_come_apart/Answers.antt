use Rattle.jsonc_sound.proofs.Leaves.{parted_leaves, joined_leaves, last_serves, seams_serve}
use Rattle.jsonc_sound.proofs.sound.leaves_come_apart.Goals as goal

pub returns-clause-apart : goal.returns-clause-apart
returns-clause-apart c = λ o first second n. (parted_leaves o first second n, λ h. joined_leaves o first second n h.0 h.1)

pub returns-clause-last : goal.returns-clause-last
returns-clause-last c = λ o leaves n m. last_serves o leaves n m

pub returns-clause-seams : goal.returns-clause-seams
returns-clause-seams c = λ o was now x y h d. seams_serve o was now x y h d
