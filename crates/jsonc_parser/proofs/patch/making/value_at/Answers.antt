use Rattle.std.proofs.Common.{Option, subst}
use Rattle.jsonc_layout.specs.declared.input.value.CstInputValue.{CstInputValue}
use Rattle.jsonc_parser.specs.patch.Found.{IsOfShown, Reads}
use Rattle.jsonc_parser.specs.patch.Pointer.{tokens_of}
use Rattle.jsonc_parser.proofs.lemmas.patch.Failing.{nowhere, unread}
use Rattle.jsonc_parser.proofs.patch.making.value_at.Goals as goal

pub returns-in-Ok-Some-clause-taken : goal.returns-in-Ok-Some-clause-taken
returns-in-Ok-Some-clause-taken g c =
    subst (λ (o : Option (CstInputValue g.row.A.Denot)). IsOfShown c.args.doc.now (λ d. Reads d (tokens_of c.args.pointer.now) o)) c.in-Ok-Some.field-0-is c.in-Ok-Some.ensures.read

pub returns-in-Ok-None-clause-fails : goal.returns-in-Ok-None-clause-fails
returns-in-Ok-None-clause-fails g c =
    nowhere c.args.doc.now (tokens_of c.args.pointer.now)
    (subst (λ (o : Option (CstInputValue g.row.A.Denot)). IsOfShown c.args.doc.now (λ d. Reads d (tokens_of c.args.pointer.now) o)) c.in-Ok-None.field-0-is c.in-Ok-None.ensures.read)

pub returns-in-Err-clause-fails : goal.returns-in-Err-clause-fails
returns-in-Err-clause-fails g c = unread c.args.doc.now (tokens_of c.args.pointer.now) c.in-Err.error c.cause_of.result c.cause_of.ensures c.in-Err.ensures.fails
