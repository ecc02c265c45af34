use Rattle.std.proofs.Common.{refl, inl}
use Rattle.jsonc_value.proofs.Pairs.{value_at_place, value_none, set_at_place}
use Rattle.jsonc_value.proofs.map.Map.get_mut.Goals as goal

pub returns-in-Some : goal.returns-in-Some
returns-in-Some g c =
    let p = g.K.PartialEq.eq c.args.key.now in
    let es = c.args.self.now in
    let i = c.in-Some.index in (
      (λ j. inl (c.value_mut.result.ghost_name, λ w. set_at_place p es i w c.in-Some.ensures.within c.in-Some.ensures.index j)),
      record { writes_back = tt; value = value_at_place p es i c.value_mut.result.now c.in-Some.ensures.within c.in-Some.ensures.index c.value_mut.ensures.value },
    )

pub returns-in-None : goal.returns-in-None
returns-in-None g c =
    (refl, record { writes_back = tt; value = value_none (g.K.PartialEq.eq c.args.key.now) c.args.self.now c.in-None.ensures.found })
