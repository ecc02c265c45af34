use Rattle.std.proofs.Common.{take}
use Rattle.std.specs.List.{IsDistinct}
use Rattle.std.specs.Map.{keys_of}
use Rattle.jsonc_value.specs.to_value.Views.{same_name}
use Rattle.jsonc_value.proofs.to_value.names.are_few_distinct.Given as goal

abbrev pub invariant-loop-place : goal.invariant-loop-place
invariant-loop-place g l = IsDistinct same_name (take l.place (keys_of l.properties))
