use Rattle.std.proofs.Common.{take}
use Rattle.jsonc_cst.specs.Document.{HasNode}
use Rattle.jsonc_parser.specs.paths.Found.{names_of}
use Rattle.jsonc_parser.proofs.lemmas.patch.PutFound.{LeadsWhatShown}
use Rattle.jsonc_parser.proofs.patch.entry.lead.Given as goal

abbrev pub invariant-loop-number : goal.invariant-loop-number
invariant-loop-number g l = LeadsWhatShown l.doc (names_of (take l.number l.tokens)) l.node × HasNode l.doc l.node
