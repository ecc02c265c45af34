use Rattle.std.proofs.Common.{subst, sym}
use Rattle.jsonc_layout.specs.input.Views.{chars_of, plain}
use Rattle.jsonc_program.specs.edit.Asked.{rename}
use Rattle.jsonc_program.specs.edit.Faults.{FailsWhatShown}
use Rattle.jsonc_program.specs.edit.Routes.{route_of}
use Rattle.jsonc_program.proofs.EditMakes.{rename_made}
use Rattle.jsonc_program.proofs.edit.making.rename.Goals as goal

pub returns-in-Ok-clause-made : goal.returns-in-Ok-clause-made
returns-in-Ok-clause-made g c =
    rename_made c.args.document.now c.make_one.new.document (route_of c.args.way.now) c.in_ok-path.path c.in_ok-path.ensures.led c.args.name c.in-Ok.ensures.made
