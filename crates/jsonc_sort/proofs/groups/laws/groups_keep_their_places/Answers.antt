use Rattle.jsonc_sort.proofs.lemmas.groups.Stretches.{groups_stay, stretches_stay}
use Rattle.jsonc_sort.proofs.groups.laws.groups_keep_their_places.Goals as goal

pub returns-clause-groups : goal.returns-clause-groups
returns-clause-groups g c = λ lt nodes row order. groups_stay row lt nodes order

pub returns-clause-stretches : goal.returns-clause-stretches
returns-clause-stretches g c = λ lt nodes row order. stretches_stay row lt nodes order
