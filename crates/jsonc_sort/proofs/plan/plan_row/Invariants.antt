use Rattle.jsonc_sort.proofs.PlannedRow.{SoFar}
use Rattle.jsonc_sort.proofs.plan.plan_row.Given as goal

abbrev pub invariant-loop-place : goal.invariant-loop-place
invariant-loop-place g l = SoFar l.fn.tree.nodes l.fn.newline l.row l.entries l.order l.tree.nodes l.commas l.plan l.place

abbrev pub decreases-loop-place : goal.decreases-loop-place
decreases-loop-place g l = l.place
