use Rattle.jsonc_run.proofs.SoundChain.{makes_steps}
use Rattle.jsonc_run.proofs.laws.edits_make_steps.Goals as goal

pub returns : goal.returns
returns c = λ o old new es tree made. makes_steps o old new es tree made
