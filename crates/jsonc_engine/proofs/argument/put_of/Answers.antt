use Rattle.jsonc_engine.specs.Change.{for_put}
use Rattle.jsonc_engine.proofs.Arguments.{json_refused, path_refused}
use Rattle.jsonc_engine.proofs.argument.put_of.Goals as goal
use Rattle.jsonc_parser.specs.paths.Found.{names_of}

pub returns-in-Err-clause-refused : goal.returns-in-Err-clause-refused
returns-in-Err-clause-refused g c = λ o. path_refused o c.args.path.now c.args.json.now c.in-Err.fault c.in-Err.ensures.refused

pub returns-in-Ok-argument_of-clause-change : goal.returns-in-Ok-argument_of-clause-change
returns-in-Ok-argument_of-clause-change g c = for_put c.args.path.now c.args.json.now c.in-Ok.names c.in-Ok-argument_of.value c.in-Ok.ensures.names c.in-Ok-argument_of.ensures.value

pub returns-in-Err-argument_of-clause-refused : goal.returns-in-Err-argument_of-clause-refused
returns-in-Err-argument_of-clause-refused g c = λ o.
    json_refused o c.args.path.now c.args.json.now (names_of c.in-Ok.names.items) c.in-Err-argument_of.fault c.in-Ok.ensures.names c.in-Err-argument_of.ensures.refused
