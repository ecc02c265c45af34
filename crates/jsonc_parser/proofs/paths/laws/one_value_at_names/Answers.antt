use Rattle.jsonc_parser.proofs.lemmas.paths.Paths.{at_once}
use Rattle.jsonc_parser.proofs.paths.laws.one_value_at_names.Goals as goal

pub returns : goal.returns
returns c = λ w names u v a b. at_once a b
