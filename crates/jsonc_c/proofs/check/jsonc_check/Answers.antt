use Rattle.std.proofs.Common.{◌≡◌, rules}
use Rattle.jsonc_text.specs.OptionsOf.{parse_options}
use Rattle.jsonc_c.specs.Options.{options_of}
use Rattle.jsonc_c.proofs.Inputs.{is_input, is_told}
use Rattle.jsonc_c.proofs.check.jsonc_check.Goals as goal

pub returns-in-Ok-checked-clause-accepted : goal.returns-in-Ok-checked-clause-accepted
returns-in-Ok-checked-clause-accepted c = λ ok.
    let same : parse_options c.options_of.result ≡ options_of c.args.options = search rules in
    let read : c.in-Ok.text.now ≡ c.args.text.now = search rules in
    is_input (parse_options c.options_of.result) (options_of c.args.options) c.args.text.now c.in-Ok.text.now same read c.in-Ok-checked.ensures.accepted

pub returns-in-Err-clause-refused : goal.returns-in-Err-clause-refused
returns-in-Err-clause-refused c =
    let same : parse_options c.options_of.result ≡ options_of c.args.options = search rules in
    let read : c.in-Ok.text.now ≡ c.args.text.now = search rules in
    is_told (parse_options c.options_of.result) (options_of c.args.options) c.args.text.now c.in-Ok.text.now same read c.in-Err.error c.tell_error.result c.tell_error.new.fault c.in-Err.ensures.refused c.tell_error.ensures.status
