use Rattle.std.proofs.Common.{ap, ◌∙◌}
use Rattle.std.specs.List.{fold}
use Rattle.std.specs.Hash.FoldHasher.{write, finish}
use Rattle.jsonc_value.specs.Hashes.{hashed}
use Rattle.jsonc_value.proofs.map.hashes.hash_of.Goals as goal

pub returns : goal.returns
unfolding hashed
returns g c = c.hash_one.ensures ∙ ap (λ b. finish (fold write b (g.Q.Hash.hash_input c.args.key))) c.new-builder.ensures
