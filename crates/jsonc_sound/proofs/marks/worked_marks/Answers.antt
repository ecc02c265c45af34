use Rattle.jsonc_sound.proofs.WorkedMarks.{text_marks, tree_text, tree_marks, other_text, other_marks}
use Rattle.jsonc_sound.proofs.marks.worked_marks.Goals as goal

pub returns : goal.returns
returns c = (text_marks, (tree_text, tree_marks), (other_text, other_marks))
