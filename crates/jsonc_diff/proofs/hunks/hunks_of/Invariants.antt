use Rattle.std.proofs.Common.{◌≤◌, ◌-◌, ◌++◌, ℕ, List, drop, length, string_bytes}
use Rattle.jsonc_diff.specs.Diffs.{AreShown}
use Rattle.jsonc_diff.proofs.hunks.hunks_of.Given as goal

-- whatever shows the steps from the place on shows, behind the text so far, all steps
abbrev pub invariant-loop-passed : goal.invariant-loop-passed
invariant-loop-passed g l = record {
  within : l.place.steps ≤ length l.steps;
  old : l.place.old ≤ l.place.steps;
  new : l.place.new ≤ l.place.steps;
  shown : (more : List ℕ) → AreShown l.place.old l.place.new (drop l.place.steps l.steps) more → AreShown 0 0 l.steps (string_bytes l.text ++ more);
}

abbrev pub decreases-loop-passed : goal.decreases-loop-passed
decreases-loop-passed g l = length l.steps - l.place.steps
