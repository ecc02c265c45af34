use Rattle.std.proofs.Common.{refl}
use Rattle.jsonc_edit.specs.Paths.{in_array, in_object, itself, step}
use Rattle.jsonc_edit.proofs.laws.worked_path.Goals as goal

pub returns : goal.returns
returns c = (1, refl, step (in_object {r = 3} refl refl (refl, refl, refl)) (step (in_array refl refl) itself))
