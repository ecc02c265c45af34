use Rattle.std.proofs.Common.{◌+◌, ◌-◌, length}
use Rattle.jsonc_changes.proofs.Common.{Common}
use Rattle.jsonc_changes.proofs.changes.common_len.Given as goal

abbrev pub invariant-loop-c : goal.invariant-loop-c
invariant-loop-c l = Common l.old l.from l.new l.at l.len

abbrev pub decreases-loop-c : goal.decreases-loop-c
decreases-loop-c l = length l.old - (l.from + l.len)
