use Rattle.jsonc_sort.proofs.AtPaths.{sorts_at}
use Rattle.jsonc_sort.proofs.laws.containers_are_sorted.Goals as goal

pub returns : goal.returns
returns c = sorts_at
