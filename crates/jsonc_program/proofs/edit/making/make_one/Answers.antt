use Rattle.std.proofs.Common.{◌≡◌, ◌∙◌, ◌++◌, List, [], ◌∷◌, ap}
use Rattle.jsonc_program.proofs.EditMade.{made_text, refused_text}
use Rattle.jsonc_program.proofs.edit.making.make_one.Goals as goal

pub returns-in-Ok-run_unsorted-clause-made : goal.returns-in-Ok-run_unsorted-clause-made
returns-in-Ok-run_unsorted-clause-made g c =
    made_text c.args.document.now c.run_unsorted.new.doc c.args.edit c.push.new.self.items (c.in-Ok.ensures.items ∙ ap (λ l. l ++ c.args.edit ∷ []) c.new-edits.ensures.items) c.in-Ok-run_unsorted.ensures.made

pub returns-in-Err-clause-fails : goal.returns-in-Err-clause-fails
returns-in-Err-clause-fails g c =
    refused_text c.args.document.now c.run_unsorted.new.doc c.args.edit c.push.new.self.items (c.in-Ok.ensures.items ∙ ap (λ l. l ++ c.args.edit ∷ []) c.new-edits.ensures.items) c.in-Err.stop.0 c.in-Err.stop.1 c.in-Err.ensures.stopped
