use Rattle.std.proofs.Common.{refl, subst}
use Rattle.jsonc_parser.specs.patch.Found.{IsOfShown}
use Rattle.jsonc_parser.specs.patch.Pointer.{tokens_of}
use Rattle.jsonc_parser.specs.patch.PutCalls.{FindsEntry}
use Rattle.jsonc_c.specs.Pointed.{IsUncleared}
use Rattle.jsonc_c.proofs.pointed.text_without.Goals as goal

pub returns-in-Ok-None-clause-refused : goal.returns-in-Ok-None-clause-refused
returns-in-Ok-None-clause-refused c = λ o words text is shown.
    let doc = c.args.document in
    let tokens = tokens_of c.args.pointer.now in
    IsUncleared.for_entry refl c.requires.untold (doc, tokens, shown, is, subst (λ r. IsOfShown doc (FindsEntry doc tokens r)) c.in-Ok-None.field-0-is c.in-Ok-None.ensures.entry)

pub returns-in-Err-remove_with_comments-clause-refused : goal.returns-in-Err-remove_with_comments-clause-refused
returns-in-Err-remove_with_comments-clause-refused c = λ o words text is shown.
    let doc = c.args.document in
    let tokens = tokens_of c.args.pointer.now in
    let entry = subst (λ r. IsOfShown doc (FindsEntry doc tokens r)) c.in-Ok-Some.field-0-is c.in-Ok-Some.ensures.entry in
    IsUncleared.for_removal c.in-Err-remove_with_comments.error c.edit_status.ensures c.requires.untold
    (doc, tokens, shown, is, (c.remove_with_comments.new.doc, c.in-Ok-Some.entry, entry, c.in-Err-remove_with_comments.ensures))

pub returns-in-Ok-text-clause-cleared : goal.returns-in-Ok-text-clause-cleared
returns-in-Ok-text-clause-cleared c = λ o words text is shown.
    let doc = c.args.document in
    let tokens = tokens_of c.args.pointer.now in
    let entry = subst (λ r. IsOfShown doc (FindsEntry doc tokens r)) c.in-Ok-Some.field-0-is c.in-Ok-Some.ensures.entry in
    (doc, tokens, shown, is, (c.remove_with_comments.new.doc, c.in-Ok-Some.entry, entry, c.in-Ok.ensures, c.in-Ok-text.ensures.printed))
