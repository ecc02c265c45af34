use Rattle.jsonc_sort.proofs.Documents.{lines_kept, row_kept}
use Rattle.jsonc_sort.proofs.laws.sorted_rows_stay_rows.Goals as goal

pub returns : goal.returns
returns c = record {
  alone = λ o kind top s n order g h. row_kept o kind top s order n g h;
  lines = λ kind top s order l. lines_kept kind top s order l;
}
