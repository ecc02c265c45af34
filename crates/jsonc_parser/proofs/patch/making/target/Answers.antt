use Rattle.std.proofs.Common.{Option, subst}
use Rattle.jsonc_cst.specs.declared.cst.node.CstNode.{CstNode}
use Rattle.jsonc_parser.specs.patch.Found.{Finds, IsOfShown}
use Rattle.jsonc_parser.specs.paths.Found.{names_of}
use Rattle.jsonc_parser.proofs.lemmas.patch.Failing.{nowhere}
use Rattle.jsonc_parser.proofs.patch.making.target.Goals as goal

pub returns-in-Ok-None-clause-fails : goal.returns-in-Ok-None-clause-fails
returns-in-Ok-None-clause-fails g c =
    nowhere c.args.doc.now (names_of c.args.tokens.now)
    (subst (λ (o : Option CstNode). IsOfShown c.args.doc.now (λ d. Finds d c.args.doc.now (names_of c.args.tokens.now) o)) c.in-Ok-None.field-0-is c.in-Ok-None.ensures.found)
