use Rattle.std.proofs.Common.{[], IfSome, sym, subst, ap, ◌∙◌}
use Rattle.std.specs.List.{IsDistinct}
use Rattle.std.specs.Map.{keys_of}
use Rattle.jsonc_value.proofs.DistinctKeys.{all_last}
use Rattle.jsonc_value.proofs.map.Map.from_vec.Goals as goal

pub returns-in_ok-both-in-Some-Some : goal.returns-in_ok-both-in-Some-Some
returns-in_ok-both-in-Some-Some g c =
    let eq = g.K.PartialEq.eq in
    let distinct : IsDistinct eq (keys_of c.as_slice.result.now) = subst (λ r. IfSome r (λ h. IsDistinct eq (keys_of c.as_slice.result.now))) c.in-Some-Some.is c.in_ok-kept.ensures.distinct in
    ap (λ h. h.pairs.items) c.in_ok-both-in-Some-Some.ensures.ok
    ∙ sym (all_last eq g.met.K.Eq.laws [] c.args.pairs.items (subst (λ l. IsDistinct eq (keys_of l)) c.as_slice.ensures.value distinct))

pub returns-in-Some-None : goal.returns-in-Some-None
returns-in-Some-None g c =
    let eq = g.K.PartialEq.eq in
    let distinct : IsDistinct eq (keys_of c.as_slice.result.now) = subst (λ r. IfSome r (λ h. IsDistinct eq (keys_of c.as_slice.result.now))) c.in-Some-None.is c.in_ok-kept.ensures.distinct in
    sym (all_last eq g.met.K.Eq.laws [] c.args.pairs.items (subst (λ l. IsDistinct eq (keys_of l)) c.as_slice.ensures.value distinct))
