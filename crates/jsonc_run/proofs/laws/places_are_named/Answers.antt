use Rattle.jsonc_run.proofs.NamedPlaces.{places_named}
use Rattle.jsonc_run.proofs.laws.places_are_named.Goals as goal

pub returns : goal.returns
returns c = places_named
