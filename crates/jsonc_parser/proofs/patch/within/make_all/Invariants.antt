use Rattle.std.proofs.Common.{take}
use Rattle.jsonc_cst.specs.Document.{nodes_of}
use Rattle.jsonc_parser.specs.patch.Room.{HasRoom}
use Rattle.jsonc_parser.specs.patch.Within.{StaysWithin}
use Rattle.jsonc_parser.proofs.patch.within.make_all.Given as goal

abbrev pub invariant-loop-number : goal.invariant-loop-number
invariant-loop-number g l = StaysWithin l.bytes l.fn.doc (take l.number l.operations) l.doc × HasRoom l.bytes (nodes_of l.doc) l.room
