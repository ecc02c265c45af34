use Rattle.jsonc_edit.proofs.ShapedPlaces.{all_stand}
use Rattle.jsonc_edit.proofs.laws.each_node_has_its_place.Goals as goal

pub returns : goal.returns
returns c = all_stand
