use Rattle.jsonc_sort.proofs.lemmas.again.ElementsRead.{comes_in_order}
use Rattle.jsonc_sort.proofs.again.laws.elements_come_in_order.Goals as goal

pub returns : goal.returns
returns c = comes_in_order
