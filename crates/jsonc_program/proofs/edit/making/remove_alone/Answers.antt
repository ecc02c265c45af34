use Rattle.std.proofs.Common.{false, subst, sym, true}
use Rattle.jsonc_program.specs.edit.Asked.{remove}
use Rattle.jsonc_program.specs.edit.Faults.{FailsWhatShown}
use Rattle.jsonc_program.specs.edit.Routes.{route_of}
use Rattle.jsonc_program.proofs.EditMakes.{remove_made, remove_refused}
use Rattle.jsonc_program.proofs.edit.making.remove_alone.Goals as goal

pub returns-in-Ok-clause-made : goal.returns-in-Ok-clause-made
returns-in-Ok-clause-made g c = λ in_object.
    remove_made c.args.document.now c.make_one.new.document (route_of c.args.way.now) c.in_ok-path.path c.in_ok-path.ensures.led in_object c.in-Ok.ensures.made

pub returns-in-Err-clause-fails : goal.returns-in-Err-clause-fails
returns-in-Err-clause-fails g c = λ in_object.
    subst (FailsWhatShown (remove (route_of c.args.way.now) in_object false true) c.args.document.now) (sym c.from.ensures)
    (remove_refused c.args.document.now c.make_one.new.document (route_of c.args.way.now) c.in_ok-path.path c.in_ok-path.ensures.led in_object c.in-Err.error c.in-Err.ensures.fails)
