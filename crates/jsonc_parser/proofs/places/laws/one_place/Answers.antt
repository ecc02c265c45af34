use Rattle.jsonc_parser.proofs.OnePlace.{has_one_place}
use Rattle.jsonc_parser.proofs.places.laws.one_place.Goals as goal

pub returns : goal.returns
returns c = has_one_place
