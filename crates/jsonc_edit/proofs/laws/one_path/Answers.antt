use Rattle.jsonc_edit.proofs.Uniqueness.{node_once, path_once}
use Rattle.jsonc_edit.proofs.laws.one_path.Goals as goal

pub returns-clause-node : goal.returns-clause-node
returns-clause-node c = node_once

pub returns-clause-path : goal.returns-clause-path
returns-clause-path c = λ ns n tree p q a b. path_once ns tree p q n a b
