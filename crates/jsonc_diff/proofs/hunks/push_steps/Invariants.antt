use Rattle.std.proofs.Common.{◌≡◌, ◌++◌, drop, string_bytes}
use Rattle.jsonc_diff.specs.Diffs.{steps_text}
use Rattle.jsonc_diff.proofs.hunks.push_steps.Given as goal

abbrev pub invariant-loop-step : goal.invariant-loop-step
invariant-loop-step g l = string_bytes l.text ++ steps_text (drop l.step-index l.steps) ≡ string_bytes l.fn.text ++ steps_text l.steps
