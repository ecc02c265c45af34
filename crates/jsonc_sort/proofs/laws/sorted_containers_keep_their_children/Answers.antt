use Rattle.jsonc_sort.proofs.KeptChildren.{sorts_children}
use Rattle.jsonc_sort.proofs.laws.sorted_containers_keep_their_children.Goals as goal

pub returns : goal.returns
returns c = sorts_children
