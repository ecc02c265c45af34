use Rattle.jsonc_text.specs.OptionsOf.{parse_options}
use Rattle.jsonc_engine.proofs.Arguments.{argument_is, no_argument}
use Rattle.jsonc_engine.proofs.argument.value_of.Goals as goal

pub returns-in-Ok-Some-clause-value : goal.returns-in-Ok-Some-clause-value
returns-in-Ok-Some-clause-value g c =
    argument_is c.args.json.now (parse_options c.args.options.now) c.in-Ok-Some.field-0 c.in-Ok-Some.ensures.value c.in-Ok-Some.value c.in-Ok-Some.field-0-is c.in-Ok-Some.ensures.writable

pub returns-in-Ok-None-clause-refused : goal.returns-in-Ok-None-clause-refused
returns-in-Ok-None-clause-refused g c = no_argument c.args.json.now (parse_options c.args.options.now) c.in-Ok-None.field-0 c.in-Ok-None.ensures.value c.in-Ok-None.field-0-is
