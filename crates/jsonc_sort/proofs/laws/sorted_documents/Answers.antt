use Rattle.jsonc_sort.proofs.Documents.{sorts_value, stays_sound}
use Rattle.jsonc_sort.proofs.KeptMarks.{keeps_all_marks}
use Rattle.jsonc_sort.proofs.laws.sorted_documents.Goals as goal

pub returns : goal.returns
returns c = record { sound = stays_sound; value = sorts_value; marks = keeps_all_marks }
