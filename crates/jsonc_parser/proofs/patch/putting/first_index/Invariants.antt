use Rattle.std.proofs.Common.{take}
use Rattle.jsonc_parser.specs.paths.Found.{names_of}
use Rattle.jsonc_parser.proofs.lemmas.patch.PutIndexes.{AreNames}
use Rattle.jsonc_parser.proofs.patch.putting.first_index.Given as goal

abbrev pub invariant-loop-number : goal.invariant-loop-number
invariant-loop-number g l = AreNames (names_of (take l.number l.tokens))
