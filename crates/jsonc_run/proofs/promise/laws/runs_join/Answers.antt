use Rattle.jsonc_run.proofs.lemmas.promise.Chains.{runs_join}
use Rattle.jsonc_run.proofs.promise.laws.runs_join.Goals as goal

pub returns : goal.returns
returns c = λ d e f. runs_join d e f
