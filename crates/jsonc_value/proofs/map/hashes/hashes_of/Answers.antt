use Rattle.std.proofs.Common.{◌<◌, length, get_or, sym, ◌∙◌, arith}
use Rattle.std.specs.Map.{keys_of}
use Rattle.std.proofs.lemmas.Map.Entries.{length-keys_of}
use Rattle.jsonc_value.proofs.Pairs.{key_at}
use Rattle.jsonc_value.proofs.HashedKeys.{kept_whole, next_hashed, all_hashed, distinct_by_hash}
use Rattle.jsonc_value.proofs.map.hashes.hashes_of.Goals as goal

pub loop-place-preserved : goal.loop-place-preserved
loop-place-preserved g c =
    let pairs = c.args.pairs.now in
    let i = c.loop-place.place in
    let key = (get_or pairs i c.index-pairs-place.result).0 in
    let hs = c.loop-place.set.keys in
    let h = c.hash_of.result in
    let within : i < length (keys_of pairs) = omega (arith, c.loop-place-test.true, length-keys_of pairs) in (
      next_hashed g.K.Hash.hash_input (keys_of pairs) i key h hs c.insert.new.self.keys within (key_at pairs i c.index-pairs-place.result key c.loop-place-test.true) c.hash_of.ensures c.loop-place.invariant.0
          (sym c.if-not-branch.false ∙ c.in_ok-insert.ensures.added)
          c.in_ok-insert.ensures.keys,
      c.insert.ensures.unique,
    )

pub returns-clause-hashes : goal.returns-clause-hashes
returns-clause-hashes g c =
    let pairs = c.args.pairs.now in
    kept_whole g.K.Hash.hash_input (keys_of pairs) c.loop-place.set.keys
    (all_hashed g.K.Hash.hash_input (keys_of pairs) c.loop-place.place c.loop-place.set.keys (omega (arith, c.loop-place-test.false, c.loop-place.auto.place-end, length-keys_of pairs)) c.loop-place.invariant.0)

pub returns-clause-distinct : goal.returns-clause-distinct
returns-clause-distinct g c =
    let pairs = c.args.pairs.now in
    let all = all_hashed g.K.Hash.hash_input (keys_of pairs) c.loop-place.place c.loop-place.set.keys (omega (arith, c.loop-place-test.false, c.loop-place.auto.place-end, length-keys_of pairs)) c.loop-place.invariant.0 in
    distinct_by_hash g.K.Hash.hash_input g.K.PartialEq.eq g.met.K.Hash.respects_eq (keys_of pairs) c.loop-place.set.keys all c.loop-place.invariant.1
