use Rattle.jsonc_parser.proofs.lemmas.paths.TakenValues.{nodes_have_values}
use Rattle.jsonc_parser.proofs.paths.laws.nodes_have_their_values.Goals as goal

pub returns : goal.returns
returns g c = λ d ns path n. nodes_have_values d ns path n
