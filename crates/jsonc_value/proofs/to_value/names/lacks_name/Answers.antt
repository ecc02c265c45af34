use Rattle.std.proofs.Common.{ap, sym, ◌∙◌, arith}
use Rattle.std.specs.Map.{keys_of}
use Rattle.std.proofs.lemmas.Map.Entries.{length-keys_of}
use Rattle.jsonc_value.specs.to_value.Views.{same_name}
use Rattle.jsonc_value.proofs.Firsts.{fails_more, found_nowhere}
use Rattle.jsonc_value.proofs.Pairs.{key_at}
use Rattle.jsonc_value.proofs.to_value.names.lacks_name.Goals as goal

pub loop-place-preserved : goal.loop-place-preserved
loop-place-preserved g c =
    let p = same_name c.args.name.now in
    let pairs = c.args.properties.now in
    fails_more p (keys_of pairs) c.loop-place.place c.loop-place.invariant
    (λ d. ap p (key_at pairs c.loop-place.place c.index-properties-place.result d c.loop-place-test.true) ∙ sym c.same_names.ensures ∙ c.if-same_names.false)

pub returns : goal.returns
returns g c = λ h.
    sym (found_nowhere (same_name c.args.name.now) (keys_of c.args.properties.now) (λ k lt d. c.loop-place.invariant k (omega (arith, lt, c.loop-place-test.false, length-keys_of c.args.properties.now)) d)).found
