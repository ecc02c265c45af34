use Rattle.std.proofs.Common.{◌∙◌, sym, Result, Ok, Err, OnErr}
use Rattle.jsonc_value.proofs.Pairs.{value_none}
use Rattle.jsonc_value.proofs.map.Map.reserve_for.Goals as goal

on_err : {X E : Type 0} {P : Type 0} (r : Result X E) → P → OnErr r P
on_err (Ok x) p = tt
on_err (Err e) p = p

pub returns-clause-memory : goal.returns-clause-memory
returns-clause-memory g c =
    on_err c.reserve.result (sym (value_none (g.K.PartialEq.eq c.args.key.now) c.args.self.now (sym c.if-is_some.false ∙ c.is_some.ensures ∙ c.find.ensures.found)))
