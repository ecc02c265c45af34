use Rattle.jsonc_sort.proofs.KeptMarks.{keeps_marks, keeps_nodes}
use Rattle.jsonc_sort.proofs.laws.sorted_rows_keep_their_nodes.Goals as goal

pub returns : goal.returns
returns c = record { nodes = keeps_nodes; marks = keeps_marks }
