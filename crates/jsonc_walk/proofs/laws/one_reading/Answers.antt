use Rattle.jsonc_walk.proofs.lemmas.Order.{one_way, one_fault}
use Rattle.jsonc_walk.proofs.laws.one_reading.Goals as goal

pub returns-clause-way : goal.returns-clause-way
returns-clause-way c = λ o whole s. one_way

pub returns-clause-fault : goal.returns-clause-fault
returns-clause-fault c = λ o whole s. one_fault
