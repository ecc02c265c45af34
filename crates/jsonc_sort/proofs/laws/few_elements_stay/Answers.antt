use Rattle.jsonc_sort.proofs.Orders.{few_stay}
use Rattle.jsonc_sort.proofs.laws.few_elements_stay.Goals as goal

pub returns : goal.returns
returns c = few_stay
