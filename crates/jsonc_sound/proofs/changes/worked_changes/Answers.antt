use Rattle.std.proofs.Common.{refl}
use Rattle.jsonc_sound.specs.TreeChanges.{this_element, passed, later_element, itself, in_array, in_object, in_root}
use Rattle.jsonc_sound.proofs.changes.worked_changes.Goals as goal

pub returns : goal.returns
returns c = λ was now e.
    in_root (this_element refl refl)
    (in_object (passed refl (this_element refl refl)) (later_element refl (passed refl (this_element refl refl)))
    (in_array (passed refl (later_element refl (passed refl (this_element e.0 e.1)))) itself))
