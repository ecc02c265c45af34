use Rattle.jsonc_parser.proofs.lemmas.paths.AtPaths.{is_at_its_place}
use Rattle.jsonc_parser.proofs.paths.laws.each_node_stands_at_its_place.Goals as goal

pub returns : goal.returns
returns c = is_at_its_place
