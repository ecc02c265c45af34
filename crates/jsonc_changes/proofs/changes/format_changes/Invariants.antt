use Rattle.std.proofs.Common.{◌-◌, length}
use Rattle.jsonc_changes.proofs.Going.{Going}
use Rattle.jsonc_changes.proofs.changes.format_changes.Given as goal

abbrev pub invariant-gaps : goal.invariant-gaps
invariant-gaps g l = Going l.old l.formatted l.from l.at l.changes.items

abbrev pub decreases-gaps : goal.decreases-gaps
decreases-gaps g l = length l.old - l.from
