use Rattle.std.proofs.Common.{◌<◌, length}
use Rattle.jsonc_edit.proofs.Finding.{Remains}
use Rattle.jsonc_edit.proofs.paths.find.Given as goal

abbrev pub invariant-loop-place : goal.invariant-loop-place
invariant-loop-place g l =
    (l.value < length l.tree.nodes) × Remains l.tree.nodes l.path l.place-index l.value
