use Rattle.std.proofs.Common.{subst, Option}
use Rattle.jsonc_cst.specs.declared.cst.node.CstNode.{CstNode}
use Rattle.jsonc_parser.specs.patch.Found.{Finds, IsOfShown}
use Rattle.jsonc_parser.specs.patch.Pointer.{tokens_of}
use Rattle.jsonc_parser.proofs.lemmas.patch.Steps.{read_fails, read_value}
use Rattle.jsonc_parser.proofs.patch.reference.read.Goals as goal

pub returns-in-Ok-clause-read : goal.returns-in-Ok-clause-read
returns-in-Ok-clause-read g c =
    let doc = c.args.doc.now in
    let tokens = tokens_of c.args.pointer.now in
    let found = subst (λ (o : Option CstNode). IsOfShown doc (λ d. Finds d doc tokens o)) c.in-Ok-Some.field-0-is c.in-Ok-Some.ensures.found in
    read_value doc doc.tree.tree tokens c.in-Ok-Some.node found c.in-Ok.value c.in-Ok.ensures.value

pub returns-in-Ok-None-clause-read : goal.returns-in-Ok-None-clause-read
returns-in-Ok-None-clause-read g c =
    let doc = c.args.doc.now in
    subst (λ (o : Option CstNode). IsOfShown doc (λ d. Finds d doc (tokens_of c.args.pointer.now) o)) c.in-Ok-None.field-0-is c.in-Ok-None.ensures.found

pub returns-in-Err-clause-fails : goal.returns-in-Err-clause-fails
returns-in-Err-clause-fails g c =
    let doc = c.args.doc.now in
    read_fails doc doc.tree.tree (tokens_of c.args.pointer.now) c.in-Err.error c.in-Err.ensures.fails
