use Rattle.std.proofs.Common.{◌-◌, length}
use Rattle.jsonc_engine.proofs.Gaps.{Passed}
use Rattle.jsonc_engine.proofs.json.gap.mark_behind.Given as goal

abbrev pub invariant-loop-behind : goal.invariant-loop-behind
invariant-loop-behind l = Passed l.text l.place l.end

abbrev pub decreases-loop-behind : goal.decreases-loop-behind
decreases-loop-behind l = length l.text - l.end
