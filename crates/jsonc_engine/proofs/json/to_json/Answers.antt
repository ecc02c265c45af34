use Rattle.jsonc_text.specs.OptionsOf.{parse_options}
use Rattle.std.proofs.Common.{chars}
use Rattle.jsonc_engine.proofs.Allowed.{document_all}
use Rattle.jsonc_engine.proofs.Changes.{on_ok}
use Rattle.jsonc_engine.proofs.json.to_json.Goals as goal

pub write_value-requires : goal.write_value-requires
write_value-requires g c = let a = c.in-Ok.ensures.accepted in (a.0, document_all (parse_options c.args.options.now) (chars c.args.text.now) a.0 a.1)

pub returns-in-Ok-clause-accepted : goal.returns-in-Ok-clause-accepted
returns-in-Ok-clause-accepted g c = on_ok c.write_value.result c.in-Ok.ensures.accepted

pub returns-in-Ok-clause-refused : goal.returns-in-Ok-clause-refused
returns-in-Ok-clause-refused g c = c.write_value.ensures.refused (parse_options c.args.options.now)

pub returns-in-Err-clause-refused : goal.returns-in-Err-clause-refused
returns-in-Err-clause-refused g c =
    let e = c.in-Err.ensures in
    (record { fault = e.fault; refused = e.refused; error = e.error }, e.memory)
