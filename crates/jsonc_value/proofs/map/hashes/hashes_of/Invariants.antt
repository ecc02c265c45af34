use Rattle.std.proofs.Common.{◌≡◌, nat_eq, map, take}
use Rattle.std.specs.List.{IsDistinct}
use Rattle.std.specs.Map.{keys_of}
use Rattle.jsonc_value.proofs.HashedKeys.{hash}
use Rattle.jsonc_value.proofs.map.hashes.hashes_of.Given as goal

abbrev pub invariant-loop-place : goal.invariant-loop-place
invariant-loop-place g l = (l.set.keys ≡ map (hash g.K.Hash.hash_input) (take l.place (keys_of l.pairs))) × IsDistinct nat_eq l.set.keys
