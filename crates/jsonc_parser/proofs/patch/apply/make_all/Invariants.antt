use Rattle.std.proofs.Common.{take}
use Rattle.jsonc_parser.specs.patch.Applied.{PatchesWhatShown}
use Rattle.jsonc_parser.proofs.patch.apply.make_all.Given as goal

abbrev pub invariant-loop-number : goal.invariant-loop-number
invariant-loop-number g l = PatchesWhatShown l.fn.doc (take l.number l.operations) l.doc
