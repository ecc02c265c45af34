use Rattle.jsonc_run.proofs.lemmas.promise.Chains.{steps_are_run}
use Rattle.jsonc_run.proofs.promise.laws.steps_are_run.Goals as goal

pub returns : goal.returns
returns c = λ o t u. steps_are_run o t u
