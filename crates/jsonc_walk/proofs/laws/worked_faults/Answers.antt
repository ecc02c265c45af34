use Rattle.jsonc_walk.proofs.lemmas.Rows.{comma_told, array_told}
use Rattle.jsonc_walk.proofs.lemmas.Order.{one_fault}
use Rattle.jsonc_walk.proofs.laws.worked_faults.Goals as goal

pub returns-clause-comma : goal.returns-clause-comma
returns-clause-comma c = (comma_told, λ g h. one_fault g _ h comma_told)

pub returns-clause-array : goal.returns-clause-array
returns-clause-array c = (array_told, λ g h. one_fault g _ h array_told)
