use Rattle.jsonc_value.proofs.Pairs.{entry_there, entry_none}
use Rattle.jsonc_value.proofs.map.Map.get_key_value.Goals as goal

pub returns-in-Some : goal.returns-in-Some
returns-in-Some g c =
    entry_there (g.K.PartialEq.eq c.args.key.now) c.args.self.now c.in-Some.index (c.pair_at.result.0.now, c.pair_at.result.1.now) c.in-Some.ensures.within c.in-Some.ensures.index c.pair_at.ensures

pub returns-in-None : goal.returns-in-None
returns-in-None g c = entry_none (g.K.PartialEq.eq c.args.key.now) c.args.self.now c.in-None.ensures.found
