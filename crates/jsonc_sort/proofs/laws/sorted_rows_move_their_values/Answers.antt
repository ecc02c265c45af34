use Rattle.jsonc_sort.proofs.Values.{items_sorted, members_sorted}
use Rattle.jsonc_sort.proofs.laws.sorted_rows_move_their_values.Goals as goal

pub returns : goal.returns
returns c = record {
  items = λ o top s vs order h. items_sorted o top s.newline s.headers s.row s.order order vs h;
  members = λ o top s ms order h. members_sorted o top s.newline s.headers s.row s.order order ms h;
}
