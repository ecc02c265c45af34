use Rattle.jsonc_text.specs.OptionsOf.{parse_options}
use Rattle.jsonc_program.specs.edit.Asked.{asked_of}
use Rattle.jsonc_program.proofs.EditShown.{edited_if}
use Rattle.jsonc_program.proofs.edit.edited.Goals as goal

pub returns-clause-edited : goal.returns-clause-edited
returns-clause-edited g c =
    edited_if (parse_options c.args.options.now) c.args.input.now c.in_ok-document.document c.in_ok-document.ensures.shown c.args.edit (asked_of c.in_ok-task.task) c.in_ok-task.ensures.asked
    c.in_ok-document.ensures.within c.in_ok-task.ensures.allowed c.make.new.document c.in_ok-make.ensures.made c.text_of.result c.text_of.ensures.printed
