use Rattle.std.proofs.Common.{map, take}
use Rattle.jsonc_walk.specs.Located.{items_at}
use Rattle.jsonc_ast.specs.Views.{items_located}
use Rattle.jsonc_parser.specs.patch.Asked.{asked}
use Rattle.jsonc_parser.specs.patch.PatchTexts.{AreOperations}
use Rattle.jsonc_parser.proofs.patch.reading.read_operations.Given as goal

abbrev pub invariant-loop-number : goal.invariant-loop-number
invariant-loop-number g l = AreOperations (items_at (items_located (take l.number l.values))) (map asked l.operations.items)
