use Rattle.std.proofs.Common.{take}
use Rattle.jsonc_lint.specs.Whole.{AreFaults}
use Rattle.jsonc_lint.proofs.faults.mend_findings.Given as goal

-- the faults of the mends that were passed are found
abbrev pub invariant-loop-mend : goal.invariant-loop-mend
invariant-loop-mend g l = AreFaults (take l.mend-index l.mends) l.last l.found.items
