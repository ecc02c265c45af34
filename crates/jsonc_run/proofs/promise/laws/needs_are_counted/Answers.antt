use Rattle.jsonc_run.proofs.lemmas.depth.Needed.{asked_needs, needs_as_asked, needs_same}
use Rattle.jsonc_run.proofs.lemmas.depth.Nodes.{nesting_is_levels}
use Rattle.jsonc_run.proofs.promise.laws.needs_are_counted.Goals as goal

pub returns-clause-nodes : goal.returns-clause-nodes
returns-clause-nodes c = λ o ns path n tree w value at. nesting_is_levels o ns tree w value path n at

pub returns-clause-place : goal.returns-clause-place
returns-clause-place c = λ o ns e tree w value n at. needs_same o ns tree w value e n at

pub returns-clause-asked : goal.returns-clause-asked
returns-clause-asked c = λ w e op asks. (asked_needs w e op asks, needs_as_asked w e op asks)
