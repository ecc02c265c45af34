use Rattle.std.proofs.Common.{Some, sym, ap, ◌∙◌}
use Rattle.indexmap.specs.Layout.{set_value_at}
use Rattle.jsonc_value.proofs.Pairs.{value_at_place, value_none, written_there, inserted_last}
use Rattle.jsonc_value.proofs.map.Map.insert.Goals as goal

pub returns-in-Some-clause-old : goal.returns-in-Some-clause-old
returns-in-Some-clause-old g c =
    ap Some c.replace.ensures.value ∙ value_at_place (g.K.PartialEq.eq c.args.key) c.args.self.now c.in-Some.index c.value_mut.result.now c.in-Some.ensures.within c.in-Some.ensures.index c.value_mut.ensures.value

pub returns-in-Some-clause-entries : goal.returns-in-Some-clause-entries
returns-in-Some-clause-entries g c =
    ap (set_value_at c.args.self.now c.in-Some.index) c.replace.ensures.after ∙ written_there g.K.PartialEq.eq c.args.self.now c.in-Some.index c.args.key c.args.value c.in-Some.ensures.within c.in-Some.ensures.index

pub returns-in-Ok-clause-old : goal.returns-in-Ok-clause-old
returns-in-Ok-clause-old g c = value_none (g.K.PartialEq.eq c.args.key) c.args.self.now c.in-None.ensures.found

pub returns-in-Ok-clause-entries : goal.returns-in-Ok-clause-entries
returns-in-Ok-clause-entries g c = c.in-Ok.ensures.pairs ∙ inserted_last g.K.PartialEq.eq c.args.self.now c.args.key c.args.value c.in-None.ensures.found

pub returns-in-Err-clause-memory : goal.returns-in-Err-clause-memory
returns-in-Err-clause-memory g c = sym (value_none (g.K.PartialEq.eq c.args.key) c.args.self.now c.in-None.ensures.found)
