use Rattle.std.proofs.Common.{ap}
use Rattle.std.specs.Map.{keys_of}
use Rattle.jsonc_value.proofs.DistinctKeys.{none_distinct}
use Rattle.jsonc_value.proofs.map.Map.new.Goals as goal

pub invariant_of-result : goal.invariant_of-result
invariant_of-result g c = (none_distinct g.K.PartialEq.eq (keys_of c.new.result.items) (ap keys_of c.new.ensures.items), tt)
