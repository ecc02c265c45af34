use Rattle.jsonc_sound.proofs.RemovedMarks.{document_loses_marks}
use Rattle.jsonc_sound.proofs.rows.marks_without_an_element.Goals as goal

pub returns : goal.returns
returns c = document_loses_marks
