use Rattle.std.proofs.Common.{refl}
use Rattle.jsonc_tree.specs.Order as order
use Rattle.jsonc_insert.proofs.laws.worked_insertions.Goals as goal

pub returns : goal.returns
unfolding lib.Utf8.encode order.upward
returns c = record { on_one_line = (refl, refl); behind_comment = refl; with_trailing_comma = refl; first = refl; to_empty_lines = refl; reads_what_stays = refl; an_object = refl; behind_the_last_comma = refl }
