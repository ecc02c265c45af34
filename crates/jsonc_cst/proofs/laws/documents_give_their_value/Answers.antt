use Rattle.jsonc_cst.proofs.Colons.{taken_is_the_value}
use Rattle.jsonc_cst.proofs.laws.documents_give_their_value.Goals as goal

pub returns : goal.returns
returns g c = taken_is_the_value
