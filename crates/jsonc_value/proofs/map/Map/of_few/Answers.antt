use Rattle.std.proofs.Common.{[], sym}
use Rattle.jsonc_value.proofs.DistinctKeys.{all_last}
use Rattle.jsonc_value.proofs.map.Map.of_few.Goals as goal

pub returns : goal.returns
returns g c = sym (all_last g.K.PartialEq.eq g.met.K.Eq.laws [] c.args.pairs.items c.requires)
