use Rattle.jsonc_insert.proofs.lemmas.elements.Places.{stands_in_place}
use Rattle.jsonc_insert.proofs.elements.laws.inserted_elements_take_their_place.Goals as goal

pub returns : goal.returns
returns c = stands_in_place
