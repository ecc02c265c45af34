use Rattle.std.proofs.Common.{take}
use Rattle.jsonc_cst.specs.Document.{HasNode}
use Rattle.jsonc_parser.specs.paths.Found.{names_of}
use Rattle.jsonc_parser.proofs.lemmas.paths.Routes.{LeadsWhatShown}
use Rattle.jsonc_parser.proofs.paths.reached.reach.Given as goal

abbrev pub invariant-loop-count : goal.invariant-loop-count
invariant-loop-count g l = LeadsWhatShown l.fn.which l.doc (names_of (take l.count l.names)) l.path.items l.node × HasNode l.doc l.node
