use Rattle.std.proofs.Common.{length, refl, ap, ◌∙◌}
use Rattle.std.specs.Map.{keys_of}
use Rattle.std.proofs.lemmas.Option.{slice_get_read}
use Rattle.indexmap.proofs.SetLemmas.{map-remove}
use Rattle.jsonc_value.proofs.HashedKeys.{removed_hash}
use Rattle.jsonc_value.proofs.map.store.Hashed.remove.Goals as goal

pub returns-clause-hashes : goal.returns-clause-hashes
returns-clause-hashes g c =
    let old = c.args.self.now.pairs.items in
    removed_hash g.K.Hash.hash_input (keys_of old) (keys_of c.remove.new.self.items) c.args.self.now.hashes.keys c.shift_remove_index-hash.new.self.keys c.args.place
    c.requires.hashes c.shift_remove_index-hash.ensures.keys (ap keys_of c.remove.ensures.items ∙ map-remove (λ e. e.0) old c.args.place)

pub returns-clause-pair : goal.returns-clause-pair
returns-clause-pair g c =
    let old = c.args.self.now.pairs.items in
    slice_get_read old (length old) c.args.place c.remove.result refl c.requires.within c.remove.ensures.value
