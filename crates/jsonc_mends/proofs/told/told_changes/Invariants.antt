use Rattle.jsonc_mends.proofs.Telling.{SoFar}
use Rattle.jsonc_mends.proofs.told.told_changes.Given as goal

abbrev pub invariant-loop-change : goal.invariant-loop-change
invariant-loop-change g l = SoFar l.text l.first l.list.items l.changes l.change-index
