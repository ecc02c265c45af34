use Rattle.std.proofs.Common.{ℕ, List, IfNone, subst}
use Rattle.jsonc_cst.specs.Document.{nodes_of}
use Rattle.jsonc_cst.specs.Paths.{IsAtNames}
use Rattle.jsonc_cst.proofs.cst.CstRootNode.path_of_names.Goals as goal

pub returns-clause-none : goal.returns-clause-none
returns-clause-none g c = subst (λ n. IfNone c.in-Ok.names ((names : List (List ℕ)) → IsAtNames (nodes_of c.args.self.now) names n → ⊥)) c.number.ensures c.in-Ok.ensures.none
