use Rattle.jsonc_value.proofs.Pairs.{value_there, value_none}
use Rattle.jsonc_value.proofs.map.Map.get.Goals as goal

pub returns-in-Some : goal.returns-in-Some
returns-in-Some g c =
    value_there (g.K.PartialEq.eq c.args.key.now) c.args.self.now c.in-Some.index (c.pair_at.result.0.now, c.pair_at.result.1.now) c.in-Some.ensures.within c.in-Some.ensures.index c.pair_at.ensures

pub returns-in-None : goal.returns-in-None
returns-in-None g c = value_none (g.K.PartialEq.eq c.args.key.now) c.args.self.now c.in-None.ensures.found
