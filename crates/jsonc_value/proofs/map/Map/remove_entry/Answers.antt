use Rattle.std.proofs.Common.{◌∙◌}
use Rattle.jsonc_value.proofs.Pairs.{entry_there, removed_there, entry_none, removed_none}
use Rattle.jsonc_value.proofs.map.Map.remove_entry.Goals as goal

pub returns-in-Some-clause-entry : goal.returns-in-Some-clause-entry
returns-in-Some-clause-entry g c = entry_there (g.K.PartialEq.eq c.args.key.now) c.args.self.now c.in-Some.index c.take_at.result c.in-Some.ensures.within c.in-Some.ensures.index c.take_at.ensures.pair

pub returns-in-Some-clause-entries : goal.returns-in-Some-clause-entries
returns-in-Some-clause-entries g c = c.take_at.ensures.pairs ∙ removed_there (g.K.PartialEq.eq c.args.key.now) c.args.self.now c.in-Some.index c.in-Some.ensures.within c.in-Some.ensures.index

pub returns-in-None-clause-entry : goal.returns-in-None-clause-entry
returns-in-None-clause-entry g c = entry_none (g.K.PartialEq.eq c.args.key.now) c.args.self.now c.in-None.ensures.found

pub returns-in-None-clause-entries : goal.returns-in-None-clause-entries
returns-in-None-clause-entries g c = removed_none (g.K.PartialEq.eq c.args.key.now) c.args.self.now c.in-None.ensures.found
