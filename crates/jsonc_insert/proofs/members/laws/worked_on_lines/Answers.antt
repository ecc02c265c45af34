use Rattle.std.proofs.Common.{refl}
use Rattle.jsonc_tree.specs.Order as order
use Rattle.jsonc_insert.proofs.members.laws.worked_on_lines.Goals as goal

pub returns : goal.returns
unfolding lib.Utf8.encode order.upward
returns c = record { comma = refl; inner = refl; object = refl }
