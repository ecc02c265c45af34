use Rattle.jsonc_run.proofs.lemmas.depth.Chains.{chains_keep_depth}
use Rattle.jsonc_run.proofs.lemmas.depth.Operations.{keeps_depth}
use Rattle.jsonc_run.proofs.promise.laws.depths_are_kept.Goals as goal

pub returns-clause-operation : goal.returns-clause-operation
returns-clause-operation g c = keeps_depth

pub returns-clause-chain : goal.returns-clause-chain
returns-clause-chain g c = λ limit d f es chain. chains_keep_depth limit chain
