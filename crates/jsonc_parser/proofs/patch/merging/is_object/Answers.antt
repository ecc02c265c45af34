use Rattle.std.proofs.Common.{IfSome, None, Option, Some, subst}
use Rattle.jsonc_cst.specs.declared.cst.node.CstNode.{CstNode}
use Rattle.jsonc_cst.specs.Document.{HasNode}
use Rattle.jsonc_parser.specs.patch.Found.{Finds, IsOfShown}
use Rattle.jsonc_parser.specs.paths.Found.{names_of}
use Rattle.jsonc_parser.proofs.lemmas.patch.MergeChains.{found_twice, no_node, object_told}
use Rattle.jsonc_parser.proofs.patch.merging.is_object.Goals as goal

pub returns-in-Ok-Some-clause-decided : goal.returns-in-Ok-Some-clause-decided
returns-in-Ok-Some-clause-decided g c =
    let doc = c.args.doc.now in
    let found = subst (λ (o : Option CstNode). IsOfShown doc (λ d. Finds d doc (names_of c.args.tokens.now) o)) c.in-Ok-Some.field-0-is c.in-Ok-Some.ensures.found in
    let held = subst (λ (o : Option CstNode). IfSome o (HasNode doc)) c.in-Ok-Some.field-0-is c.in-Ok-Some.ensures.in_document in
    object_told doc doc.tree.tree (names_of c.args.tokens.now) c.in-Ok-Some.node held c.as_object.result c.as_object.ensures c.is_some.result c.is_some.ensures found

pub returns-in-Ok-None-clause-decided : goal.returns-in-Ok-None-clause-decided
returns-in-Ok-None-clause-decided g c =
    let doc = c.args.doc.now in
    no_node doc (names_of c.args.tokens.now) (subst (λ (o : Option CstNode). IsOfShown doc (λ d. Finds d doc (names_of c.args.tokens.now) o)) c.in-Ok-None.field-0-is c.in-Ok-None.ensures.found)

pub returns-in-Err-clause-fails : goal.returns-in-Err-clause-fails
returns-in-Err-clause-fails g c = found_twice c.args.doc.now (names_of c.args.tokens.now) c.in-Err.error c.cause_of.result c.cause_of.ensures c.in-Err.ensures.fails
