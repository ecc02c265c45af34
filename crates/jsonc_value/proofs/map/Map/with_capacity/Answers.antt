use Rattle.std.proofs.Common.{length, ap, ◌∙◌}
use Rattle.std.specs.Map.{keys_of}
use Rattle.jsonc_value.proofs.DistinctKeys.{none_distinct}
use Rattle.jsonc_value.proofs.Stores.{empty_holds}
use Rattle.jsonc_value.proofs.map.Map.with_capacity.Goals as goal

pub invariant_of-result : goal.invariant_of-result
invariant_of-result g c = (none_distinct g.K.PartialEq.eq (keys_of c.in_ok-pairs.pairs.items) (ap keys_of c.in_ok-pairs.ensures.items), tt)

pub invariant_of-result-2 : goal.invariant_of-result-2
invariant_of-result-2 g c =
    empty_holds g.K.PartialEq.eq g.K.Hash.hash_input c.in_ok-both.both.value (ap (λ v. v.items) c.in_ok-both.ensures.pairs ∙ c.in_ok-pairs-2.ensures.items)
    (ap (λ h. length h.keys) c.in_ok-both.ensures.hashes ∙ c.in_ok-hashes.ensures.len)
