use Rattle.std.proofs.Common.{◌≡◌, ◌++◌, drop, map}
use Rattle.jsonc_diff.specs.Scripts.{new_of, old_of}
use Rattle.jsonc_diff.proofs.Scripts.{texts}
use Rattle.jsonc_diff.proofs.script.push_kept.Given as goal

abbrev pub invariant-loop-line : goal.invariant-loop-line
invariant-loop-line g l = record {
  old : old_of l.steps.items ++ texts (drop l.line-index l.lines) ≡ old_of l.fn.steps.items ++ texts l.lines;
  new : new_of l.steps.items ++ texts (drop l.line-index l.lines) ≡ new_of l.fn.steps.items ++ texts l.lines;
}
