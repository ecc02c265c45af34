use Rattle.std.proofs.Common.{length, ap}
use Rattle.std.specs.Map.{keys_of}
use Rattle.jsonc_value.proofs.DistinctKeys.{none_distinct}
use Rattle.jsonc_value.proofs.Stores.{empty_holds}
use Rattle.jsonc_value.proofs.map.Map.clear.Goals as goal
use Rattle.jsonc_value.proofs.map.Map.clear.Goals.{in-Few, in-Many}

pub invariant_of-self : goal.invariant_of-self
invariant_of-self g c =
    let eq = g.K.PartialEq.eq in
    elim c.match-self.branch [
      | in-Few w ↦ rw w.self-inside-is (none_distinct eq (keys_of w.clear.new.self.items) (ap keys_of w.clear.ensures.items), tt)
      | in-Many w ↦ rw w.self-inside-is (empty_holds eq g.K.Hash.hash_input w.clear-in-Many.new.self w.clear-in-Many.ensures.pairs (ap length w.clear-in-Many.ensures.hashes))
    ]
