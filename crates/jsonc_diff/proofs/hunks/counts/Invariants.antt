use Rattle.std.proofs.Common.{◌≡◌, ◌≤◌, ◌+◌, length, drop}
use Rattle.jsonc_diff.specs.Scripts.{new_of, old_of}
use Rattle.jsonc_diff.proofs.hunks.counts.Given as goal

abbrev pub invariant-loop-step : goal.invariant-loop-step
invariant-loop-step l = record {
  old : l.old + length (old_of (drop l.step-index l.steps)) ≡ length (old_of l.steps);
  new : l.new + length (new_of (drop l.step-index l.steps)) ≡ length (new_of l.steps);
  old_within : l.old ≤ l.step-index;
  new_within : l.new ≤ l.step-index;
}
