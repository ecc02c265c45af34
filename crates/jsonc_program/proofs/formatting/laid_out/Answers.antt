use Rattle.std.proofs.Common.{refl}
use Rattle.jsonc_text.specs.OptionsOf.{parse_options}
use Rattle.jsonc_program.proofs.Layouts.{input_refused}
use Rattle.jsonc_program.proofs.formatting.laid_out.Goals as goal

pub returns-in-Err-clause-refused : goal.returns-in-Err-clause-refused
returns-in-Err-clause-refused g c =
    input_refused _ (parse_options c.args.options.now) c.args.layout.now c.args.input.now c.in-Err.fault c.args.input.now refl c.in-Err.ensures.refused
