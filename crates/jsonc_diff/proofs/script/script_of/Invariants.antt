use Rattle.std.proofs.Common.{◌≡◌, ◌+◌, ◌-◌, ◌≤◌, length, take}
use Rattle.jsonc_diff.specs.Scripts.{new_of, old_of}
use Rattle.jsonc_diff.proofs.Scripts.{texts}
use Rattle.jsonc_diff.proofs.script.script_of.Given as goal

-- the lines of the steps are those at the fronts of both texts
abbrev pub invariant-loop-olds : goal.invariant-loop-olds
invariant-loop-olds g l = record {
  old : old_of l.steps.items ≡ texts (take l.olds l.fn.old);
  new : new_of l.steps.items ≡ texts (take l.news l.fn.new);
  old_within : l.olds ≤ length l.fn.old;
  new_within : l.news ≤ length l.fn.new;
}

abbrev pub decreases-loop-olds : goal.decreases-loop-olds
decreases-loop-olds g l = (length l.old - l.olds) + (length l.new - l.news)
