use Rattle.std.proofs.Common.{ℕ, drop}
use Rattle.jsonc_edit.specs.Paths.{IsAt}
use Rattle.jsonc_cst.specs.Document.{nodes_of, HasNode}
use Rattle.jsonc_parser.proofs.lemmas.patch.Located.{IsOnTheWay}
use Rattle.jsonc_parser.proofs.patch.location.tokens_over.Given as goal

abbrev pub invariant-loop-place : goal.invariant-loop-place
invariant-loop-place g l = HasNode l.doc l.node × ((n : ℕ) → IsAt (nodes_of l.doc) l.path n → IsOnTheWay l.doc n l.tokens.items l.node (drop l.place-index l.path))
