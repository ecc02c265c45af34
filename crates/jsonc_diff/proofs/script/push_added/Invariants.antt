use Rattle.std.proofs.Common.{◌≡◌, ◌++◌, drop, map}
use Rattle.jsonc_diff.specs.Scripts.{new_of, old_of}
use Rattle.jsonc_diff.proofs.Scripts.{texts}
use Rattle.jsonc_diff.proofs.script.push_added.Given as goal

abbrev pub invariant-loop-line : goal.invariant-loop-line
invariant-loop-line g l = record {
  old : old_of l.steps.items ≡ old_of l.fn.steps.items;
  new : new_of l.steps.items ++ texts (drop l.line-index l.lines) ≡ new_of l.fn.steps.items ++ texts l.lines;
}
