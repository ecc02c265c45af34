use Rattle.std.proofs.Common.{take}
use Rattle.jsonc_cst.specs.Document.{HasNode}
use Rattle.jsonc_parser.specs.paths.Found.{names_of}
use Rattle.jsonc_parser.proofs.lemmas.patch.Steps.{RefersWhatShown}
use Rattle.jsonc_parser.proofs.patch.reference.follow.Given as goal

abbrev pub invariant-loop-token : goal.invariant-loop-token
invariant-loop-token g l = RefersWhatShown l.doc (names_of (take l.token-index l.tokens)) l.node × HasNode l.doc l.node
