use Rattle.jsonc_text.specs.OptionsOf.{parse_options}
use Rattle.jsonc_walk.proofs.lemmas.Refusals.{ok_of}
use Rattle.jsonc_cst.proofs.JsonValues.{value_may_be_written}
use Rattle.jsonc_cst.proofs.cst.input.from_json.Goals as goal

pub returns-clause-writable : goal.returns-clause-writable
returns-clause-writable g c =
    ok_of c.parse_to_input.result (λ found read. value_may_be_written (parse_options c.args.options.now) c.args.text.now found read) c.parse_to_input.ensures.value
