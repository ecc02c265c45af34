use Rattle.std.specs.Prelude.{IfSome}
use Rattle.jsonc_cst.specs.Document.{HasNode}
use Rattle.std.proofs.Common.{◌∙◌, None, Option, Some, subst, sym}
use Rattle.jsonc_cst.specs.declared.cst.node.CstNode.{CstNode}
use Rattle.jsonc_parser.specs.paths.Found.{names_of}
use Rattle.jsonc_parser.specs.patch.Found.{IsOfShown}
use Rattle.jsonc_parser.specs.patch.Pointer.{tokens_of}
use Rattle.jsonc_parser.specs.patch.PutCalls.{FindsEntry}
use Rattle.jsonc_parser.proofs.lemmas.paths.ChosenEdit.{no_names, some_names}
use Rattle.jsonc_program.proofs.EditRoutes.{led_by_entry, led_by_none, led_nowhere}
use Rattle.jsonc_program.proofs.edit.place.value_by_tokens.Goals as goal

pub returns-then-is_empty-clause-led : goal.returns-then-is_empty-clause-led
returns-then-is_empty-clause-led g c =
    led_by_none c.args.document.now c.args.document.now.tree.tree (tokens_of c.args.pointer.now) (sym c.tokens.ensures ∙ no_names c.tokens.result.now (sym c.is_empty.ensures ∙ c.if-is_empty.true)) c.value.result c.value.ensures.value

pub returns-in-Ok-Some-clause-led : goal.returns-in-Ok-Some-clause-led
returns-in-Ok-Some-clause-led g c =
    let doc = c.args.document.now in
    let ts = tokens_of c.args.pointer.now in
    led_by_entry doc doc.tree.tree ts c.in-Ok-Some.entry (subst (λ (f : Option CstNode). IfSome f (HasNode doc)) c.in-Ok-Some.field-0-is c.in-Ok-Some.ensures.in_document)
    (subst (λ (f : Option CstNode). IsOfShown doc (FindsEntry doc ts f)) c.in-Ok-Some.field-0-is c.in-Ok-Some.ensures.entry) c.value_of_entry.result c.value_of_entry.ensures.value

pub returns-in-Ok-None-clause-led : goal.returns-in-Ok-None-clause-led
returns-in-Ok-None-clause-led g c =
    let doc = c.args.document.now in
    let ts = tokens_of c.args.pointer.now in
    led_nowhere doc doc.tree.tree ts (λ e. some_names c.tokens.result.now (sym c.is_empty.ensures ∙ c.if-is_empty.false) (c.tokens.ensures ∙ e))
    (subst (λ (f : Option CstNode). IsOfShown doc (FindsEntry doc ts f)) c.in-Ok-None.field-0-is c.in-Ok-None.ensures.entry)
