use Rattle.std.specs.Map.{keys_of}
use Rattle.jsonc_value.proofs.Firsts.{FailsBefore}
use Rattle.jsonc_value.proofs.map.search.search.Given as goal

abbrev pub invariant-loop-place : goal.invariant-loop-place
invariant-loop-place g l = FailsBefore (g.Q.Equivalent.equivalent l.key) (keys_of l.pairs) l.place
