use Rattle.std.proofs.Common.{◌≤◌, drop, length}
use Rattle.jsonc_edit.specs.Put.{Extends}
use Rattle.jsonc_sort.specs.Plans.{Gains}
use Rattle.jsonc_sort.specs.Slots.{all_stay}
use Rattle.jsonc_sort.proofs.plan.put_stretch.Given as goal

abbrev pub invariant-loop-place : goal.invariant-loop-place
invariant-loop-place g l = record {
  within : l.place ≤ length l.nodes;
  gains : Gains l.fn.tree.nodes l.fn.plan l.tree.nodes l.plan (all_stay (drop l.place l.nodes));
  prepared : Extends l.fn.tree.nodes l.tree.nodes;
}

abbrev pub decreases-loop-place : goal.decreases-loop-place
decreases-loop-place g l = l.place
