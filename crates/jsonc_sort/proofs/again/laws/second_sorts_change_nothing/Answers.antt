use Rattle.jsonc_sort.proofs.lemmas.again.SecondSort.{sorts_once, sorts_texts_once}
use Rattle.jsonc_sort.proofs.again.laws.second_sorts_change_nothing.Goals as goal

pub returns-clause-once : goal.returns-clause-once
returns-clause-once c = sorts_once

pub returns-clause-texts : goal.returns-clause-texts
returns-clause-texts c = sorts_texts_once
