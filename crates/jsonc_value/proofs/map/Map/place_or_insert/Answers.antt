use Rattle.std.proofs.Common.{◌≡◌, Some, get_or, ap, sym, ◌∙◌, slice_get}
use Rattle.std.specs.Option.{unwrap_or}
use Rattle.std.specs.Map.{values_of}
use Rattle.std.proofs.lemmas.Option.{slice_get-get_or}
use Rattle.indexmap.specs.Layout.{set_value_at}
use Rattle.jsonc_value.proofs.Pairs.{value_there, value_none, written_there, written_last, value_at, value_last}
use Rattle.jsonc_value.proofs.map.Map.place_or_insert.Goals as goal

pub returns-in-Some-clause-place : goal.returns-in-Some-clause-place
returns-in-Some-clause-place g c =
    λ w. written_there g.K.PartialEq.eq c.args.self.now c.in-Some.index c.args.key w c.in-Some.ensures.within c.in-Some.ensures.index

pub returns-in-Some-clause-value : goal.returns-in-Some-clause-value
returns-in-Some-clause-value g c =
    let es = c.args.self.now in
    let i = c.in-Some.index in
    let e = get_or es i (c.args.key, c.args.value) in
    let here : slice_get es i ≡ Some e = slice_get-get_or es i (c.args.key, c.args.value) c.in-Some.ensures.within in
    value_at es i e here ∙ ap (λ o. Some (unwrap_or o c.args.value)) (value_there (g.K.PartialEq.eq c.args.key) es i e c.in-Some.ensures.within c.in-Some.ensures.index here)

pub returns-in-Ok-clause-place : goal.returns-in-Ok-clause-place
returns-in-Ok-clause-place g c =
    λ w. (λ j. set_value_at (c.in-Ok.ensures.pairs j) (c.len-index.ensures.len j) w) ∙ written_last g.K.PartialEq.eq c.args.self.now c.args.key c.args.value w c.in_default.ensures.found

pub returns-in-Ok-clause-value : goal.returns-in-Ok-clause-value
returns-in-Ok-clause-value g c =
    (λ j. slice_get (values_of (c.in-Ok.ensures.pairs j)) (c.len-index.ensures.len j)) ∙ value_last c.args.self.now c.args.key c.args.value
    ∙ ap (λ o. Some (unwrap_or o c.args.value)) (value_none (g.K.PartialEq.eq c.args.key) c.args.self.now c.in_default.ensures.found)

pub returns-in-Err-clause-memory : goal.returns-in-Err-clause-memory
returns-in-Err-clause-memory g c = sym (value_none (g.K.PartialEq.eq c.args.key) c.args.self.now c.in_default.ensures.found)
