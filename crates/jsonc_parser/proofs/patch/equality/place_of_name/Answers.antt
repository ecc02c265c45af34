use Rattle.jsonc_parser.proofs.lemmas.patch.SeenNames.{placed, unplaced}
use Rattle.jsonc_parser.proofs.patch.equality.place_of_name.Goals as goal

pub returns-clause-some : goal.returns-clause-some
returns-clause-some g c = placed c.args.name c.args.names.now.keys c.get_index_of.result c.get_index_of.ensures.index

pub returns-clause-none : goal.returns-clause-none
returns-clause-none g c = unplaced c.args.name c.args.names.now.keys c.get_index_of.result c.get_index_of.ensures.found
