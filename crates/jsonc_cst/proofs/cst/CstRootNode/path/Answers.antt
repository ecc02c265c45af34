use Rattle.std.proofs.Common.{ℕ, List, IfNone, subst}
use Rattle.jsonc_edit.specs.Paths.{IsAt}
use Rattle.jsonc_cst.specs.Document.{nodes_of}
use Rattle.jsonc_cst.proofs.cst.CstRootNode.path.Goals as goal

pub returns-clause-none : goal.returns-clause-none
returns-clause-none g c = subst (λ n. IfNone c.in-Ok.path ((path : List ℕ) → IsAt (nodes_of c.args.self.now) path n → ⊥)) c.number.ensures c.in-Ok.ensures.none
