use Rattle.std.proofs.Common.{◌≡◌, ◌++◌}
use Rattle.jsonc_input.proofs.maker.InputMakerReceiverString.close_object.Given as goal

abbrev pub invariant-loop-property : goal.invariant-loop-property
invariant-loop-property g l = l.properties.items ++ l.property-iterator ≡ l.fn.object.entries
