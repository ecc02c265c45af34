use Rattle.jsonc_sound.proofs.Printed.{prints_its_marks}
use Rattle.jsonc_sound.proofs.marks.sound_trees_print_their_marks.Goals as goal

pub returns : goal.returns
returns c = prints_its_marks
