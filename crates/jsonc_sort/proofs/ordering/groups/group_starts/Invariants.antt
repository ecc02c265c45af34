use Rattle.std.proofs.Common.{◌≡◌, ◌++◌, drop}
use Rattle.jsonc_sort.specs.ordering.Groups.{group_starts, starts_from}
use Rattle.jsonc_sort.proofs.ordering.groups.group_starts.Given as goal

abbrev pub invariant-loop-place : goal.invariant-loop-place
invariant-loop-place g l = l.starts.items ++ starts_from l.start l.place (drop l.place l.begins) ≡ group_starts l.begins
