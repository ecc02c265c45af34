use Rattle.std.proofs.Common.{take}
use Rattle.jsonc_cst.specs.Document.{HasNode}
use Rattle.jsonc_parser.specs.paths.Found.{names_of}
use Rattle.jsonc_parser.proofs.lemmas.paths.Found.{NamesWhatShown}
use Rattle.jsonc_parser.proofs.paths.reached.is_in_the_way.Given as goal

abbrev pub invariant-loop-name : goal.invariant-loop-name
invariant-loop-name g l = NamesWhatShown l.fn.which l.doc (names_of (take l.name-index l.names)) l.node × HasNode l.doc l.node
