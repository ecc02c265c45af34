use Rattle.std.proofs.Common.{◌≡◌, ◌++◌}
use Rattle.jsonc_layout.proofs.to_input.taken.pairs_of.Given as goal

abbrev pub invariant-loop-property : goal.invariant-loop-property
invariant-loop-property g l = l.pairs.items ++ l.property-iterator ≡ l.fn.properties.entries
