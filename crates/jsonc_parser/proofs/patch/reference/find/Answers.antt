use Rattle.std.proofs.Common.{IfErr, IfOk, List, subst, ℕ}
use Rattle.jsonc_parser.specs.patch.Found.{FindFails, Finds, IsOfShown}
use Rattle.jsonc_parser.proofs.patch.reference.find.Goals as goal

pub returns-clause-found : goal.returns-clause-found
returns-clause-found g c =
    subst (λ (tokens : List (List ℕ)). IfOk c.follow.result (λ found. IsOfShown c.args.doc.now (λ d. Finds d c.args.doc.now tokens found))) c.tokens.ensures c.follow.ensures.found

pub returns-clause-fails : goal.returns-clause-fails
returns-clause-fails g c =
    subst (λ (tokens : List (List ℕ)). IfErr c.follow.result (λ e. IsOfShown c.args.doc.now (λ d. FindFails d c.args.doc.now tokens e))) c.tokens.ensures c.follow.ensures.fails
