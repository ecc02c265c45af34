use Rattle.std.proofs.Common.{true≢false, ap, sym, ◌∙◌}
use Rattle.std.specs.Map.{keys_of}
use Rattle.indexmap.proofs.ReorderLemmas.{map-swap}
use Rattle.jsonc_value.proofs.HashedKeys.{unhashed, swapped_hashes}
use Rattle.jsonc_value.proofs.map.store.Hashed.swap.Goals as goal

pub returns-then-is_empty-clause-hashes : goal.returns-then-is_empty-clause-hashes
returns-then-is_empty-clause-hashes g c =
    unhashed g.K.Hash.hash_input (keys_of c.swap.new.self.items) c.args.self.now.hashes.keys (c.is_empty.ensures.0 c.if-is_empty.true)

pub returns-clause-hashes : goal.returns-clause-hashes
returns-clause-hashes g c =
    let old = c.args.self.now.pairs.items in
    swapped_hashes g.K.Hash.hash_input (keys_of old) (keys_of c.swap.new.self.items) c.args.self.now.hashes.keys c.swap_indices.new.self.keys c.args.first c.args.second
    c.requires.hashes (λ none. true≢false (sym (c.is_empty.ensures.1 none) ∙ c.if-is_empty.false)) c.swap_indices.ensures.keys (ap keys_of c.swap.ensures.items ∙ map-swap (λ e. e.0) old c.args.first c.args.second)
