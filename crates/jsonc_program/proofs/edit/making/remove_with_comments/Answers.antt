use Rattle.std.proofs.Common.{Err, Ok, subst, sym, true}
use Rattle.jsonc_cst.specs.typed.Calls.{IsEntryRemoval}
use Rattle.jsonc_program.specs.edit.Asked.{remove}
use Rattle.jsonc_program.specs.edit.Faults.{FailsWhatShown}
use Rattle.jsonc_program.specs.edit.Routes.{route_of}
use Rattle.jsonc_program.proofs.EditEntries.{kept_with_comments, removed_with_comments}
use Rattle.jsonc_program.proofs.edit.making.remove_with_comments.Goals as goal

pub returns-in-Ok-clause-made : goal.returns-in-Ok-clause-made
returns-in-Ok-clause-made g c = λ in_object.
    removed_with_comments c.args.document.now c.remove_with_comments.new.doc c.args.document.now.tree.tree (route_of c.args.way.now) c.in_ok-value.value c.in_ok-value.ensures.in_document c.in_ok-value.ensures.led in_object
    (subst (λ n. IsEntryRemoval c.args.document.now c.remove_with_comments.new.doc n (Ok tt)) c.entry_of-entry.ensures.entry c.in-Ok.ensures)

pub returns-in-Err-clause-fails : goal.returns-in-Err-clause-fails
returns-in-Err-clause-fails g c = λ in_object.
    subst (FailsWhatShown (remove (route_of c.args.way.now) in_object true true) c.args.document.now) (sym c.from.ensures)
    (kept_with_comments c.args.document.now c.remove_with_comments.new.doc c.args.document.now.tree.tree (route_of c.args.way.now) c.in_ok-value.value c.in_ok-value.ensures.in_document c.in_ok-value.ensures.led in_object c.in-Err.error
    (subst (λ n. IsEntryRemoval c.args.document.now c.remove_with_comments.new.doc n (Err c.in-Err.error)) c.entry_of-entry.ensures.entry c.in-Err.ensures))
