-- The operations of a patch.
use Rattle.std.specs.Prelude.{List, map}
use Rattle.jsonc_parser.specs.patch.Asked.{asked}
use Rattle.jsonc_parser.specs.patch.Operations as value
use Rattle.jsonc_parser.specs.declared.patch.operation.Operation.{Operation}
use Rattle.jsonc_parser.specs.declared.patch.reading.Patch.{Patch}

module _ {A : Type 0} where
  abbrev pub operations_in : Patch A → List (Operation A)
  operations_in patch = patch.operations.items

  -- what they ask for
  abbrev pub operations_of : Patch A → List value.Operation
  operations_of patch = map asked (operations_in patch)
