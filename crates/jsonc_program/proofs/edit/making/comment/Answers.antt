use Rattle.std.proofs.Common.{subst, sym}
use Rattle.jsonc_layout.specs.input.Views.{chars_of, plain}
use Rattle.jsonc_program.specs.edit.Asked.{comment}
use Rattle.jsonc_program.specs.edit.Faults.{FailsWhatShown}
use Rattle.jsonc_program.specs.edit.Routes.{route_of}
use Rattle.jsonc_program.proofs.EditMakes.{comment_made, comment_refused}
use Rattle.jsonc_program.proofs.edit.making.comment.Goals as goal

pub returns-in-Ok-clause-made : goal.returns-in-Ok-clause-made
returns-in-Ok-clause-made g c =
    comment_made c.args.document.now c.make_one.new.document (route_of c.args.way.now) c.in_ok-path.path c.in_ok-path.ensures.led c.args.place c.args.text c.in-Ok.ensures.made

pub returns-in-Err-clause-fails : goal.returns-in-Err-clause-fails
returns-in-Err-clause-fails g c =
    subst (FailsWhatShown (comment (route_of c.args.way.now) c.args.place (chars_of c.args.text)) c.args.document.now) (sym c.from.ensures)
    (comment_refused c.args.document.now c.make_one.new.document (route_of c.args.way.now) c.in_ok-path.path c.in_ok-path.ensures.led c.args.place c.args.text c.in-Err.error c.in-Err.ensures.fails)
