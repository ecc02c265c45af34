use Rattle.std.specs.Map.{keys_of}
use Rattle.jsonc_value.specs.to_value.Views.{same_name}
use Rattle.jsonc_value.proofs.Firsts.{FailsBefore}
use Rattle.jsonc_value.proofs.to_value.names.lacks_name.Given as goal

abbrev pub invariant-loop-place : goal.invariant-loop-place
invariant-loop-place g l = FailsBefore (same_name l.name) (keys_of l.properties) l.place
