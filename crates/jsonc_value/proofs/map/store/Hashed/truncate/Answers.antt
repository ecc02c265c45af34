use Rattle.std.proofs.Common.{ap, sym, ◌∙◌}
use Rattle.std.specs.Map.{keys_of}
use Rattle.std.proofs.lemmas.List.{take-map}
use Rattle.jsonc_value.proofs.HashedKeys.{taken_hashes}
use Rattle.jsonc_value.proofs.map.store.Hashed.truncate.Goals as goal

pub returns-clause-hashes : goal.returns-clause-hashes
returns-clause-hashes g c =
    let old = c.args.self.now.pairs.items in
    taken_hashes g.K.Hash.hash_input (keys_of old) (keys_of c.truncate-2.new.self.items) c.args.self.now.hashes.keys c.truncate.new.self.keys c.args.len
    c.requires c.truncate.ensures.keys (ap keys_of c.truncate-2.ensures.items ∙ sym (take-map (λ e. e.0) c.args.len old))
