use Rattle.std.proofs.Common.{◌≡◌, ◌<◌, length, get_or, ap, sym, ◌∙◌, arith}
use Rattle.std.specs.Map.{keys_of}
use Rattle.std.proofs.lemmas.Map.Entries.{length-keys_of}
use Rattle.jsonc_value.proofs.Firsts.{found_at, found_nowhere, fails_more}
use Rattle.jsonc_value.proofs.Pairs.{key_at}
use Rattle.jsonc_value.proofs.map.search.search.Goals as goal

pub returns-then-equivalent-clause-index : goal.returns-then-equivalent-clause-index
returns-then-equivalent-clause-index g c =
    let p = g.Q.Equivalent.equivalent c.args.key in
    let pairs = c.args.pairs.now in
    let pair = c.index-pairs-place.result in
    let within : c.loop-place.place < length (keys_of pairs) = omega (arith, c.loop-place-test.true, length-keys_of pairs) in
    let key : get_or (keys_of pairs) c.loop-place.place pair.0 ≡ (get_or pairs c.loop-place.place pair).0 = key_at pairs c.loop-place.place pair pair.0 c.loop-place-test.true in
    (found_at p (keys_of pairs) c.loop-place.place pair.0 within c.loop-place.invariant (ap p key ∙ sym c.equivalent.ensures ∙ c.if-equivalent.true)).index

pub returns-then-equivalent-clause-found : goal.returns-then-equivalent-clause-found
returns-then-equivalent-clause-found g c =
    let p = g.Q.Equivalent.equivalent c.args.key in
    let pairs = c.args.pairs.now in
    let pair = c.index-pairs-place.result in
    let within : c.loop-place.place < length (keys_of pairs) = omega (arith, c.loop-place-test.true, length-keys_of pairs) in
    let key : get_or (keys_of pairs) c.loop-place.place pair.0 ≡ (get_or pairs c.loop-place.place pair).0 = key_at pairs c.loop-place.place pair pair.0 c.loop-place-test.true in
    (found_at p (keys_of pairs) c.loop-place.place pair.0 within c.loop-place.invariant (ap p key ∙ sym c.equivalent.ensures ∙ c.if-equivalent.true)).found

pub loop-place-preserved : goal.loop-place-preserved
loop-place-preserved g c =
    let p = g.Q.Equivalent.equivalent c.args.key in
    let pairs = c.args.pairs.now in
    let pair = c.index-pairs-place.result in
    fails_more p (keys_of pairs) c.loop-place.place c.loop-place.invariant
    (λ d. ap p (key_at pairs c.loop-place.place pair d c.loop-place-test.true) ∙ sym c.equivalent.ensures ∙ c.if-equivalent.false)

pub returns-clause-index : goal.returns-clause-index
returns-clause-index g c =
    (found_nowhere (g.Q.Equivalent.equivalent c.args.key) (keys_of c.args.pairs.now) (λ k lt d. c.loop-place.invariant k (omega (arith, lt, c.loop-place-test.false, length-keys_of c.args.pairs.now)) d)).index

pub returns-clause-found : goal.returns-clause-found
returns-clause-found g c =
    (found_nowhere (g.Q.Equivalent.equivalent c.args.key) (keys_of c.args.pairs.now) (λ k lt d. c.loop-place.invariant k (omega (arith, lt, c.loop-place-test.false, length-keys_of c.args.pairs.now)) d)).found
