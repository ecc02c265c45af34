use Rattle.std.proofs.Common.{◌∙◌}
use Rattle.jsonc_text.specs.OptionsOf.{parse_options}
use Rattle.jsonc_program.proofs.Layouts.{formatted_refused, set_refused}
use Rattle.jsonc_program.proofs.formatting.with_commas.Goals as goal

pub returns-in-Err-clause-refused : goal.returns-in-Err-clause-refused
returns-in-Err-clause-refused g c =
    formatted_refused _ (parse_options c.args.options.now) c.args.layout.now c.args.input.now c.in-Err.fault c.args.text.now c.requires.text c.in-Err.ensures.refused

pub returns-clause-refused : goal.returns-clause-refused
returns-clause-refused g c =
    set_refused _ (parse_options c.args.options.now) c.args.layout.now c.args.input.now c.in-Err-formatted.fault c.args.mode c.args.text.now _ c.as_bytes.result.now c.requires.text c.requires.mode c.in-Ok.ensures.set
    (c.as_bytes.ensures.value ∙ c.as_str.ensures.value) c.in-Err-formatted.ensures.refused
