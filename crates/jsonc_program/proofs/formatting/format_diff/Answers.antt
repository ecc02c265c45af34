use Rattle.std.proofs.Common.{drop}
use Rattle.jsonc_text.specs.OptionsOf.{parse_options}
use Rattle.jsonc_program.specs.Mark.{mark_length}
use Rattle.jsonc_program.proofs.Layouts.{input_refused}
use Rattle.jsonc_program.proofs.formatting.format_diff.Goals as goal

pub returns-in_default-clause-refused : goal.returns-in_default-clause-refused
returns-in_default-clause-refused g c =
    input_refused _ (parse_options c.args.options.now) c.args.layout.now (drop (mark_length c.args.old.now) c.args.old.now) _ c.split_mark.result.1.now c.split_mark.ensures.rest c.in_default.ensures.cases.0
