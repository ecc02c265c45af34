use Rattle.std.proofs.Common.{◌≡◌, List, ℕ, rules, subst}
use Rattle.jsonc_text.specs.OptionsOf.{parse_options}
use Rattle.jsonc_engine.specs.Causes.{IsJsonCause}
use Rattle.jsonc_c.specs.Json.{IsNoJson, IsToldOfNumber}
use Rattle.jsonc_c.specs.Options.{options_of}
use Rattle.jsonc_c.proofs.Pointing.{no_json_text}
use Rattle.jsonc_c.proofs.json.as_json.Goals as goal

pub returns-in-Err-Text-clause-refused : goal.returns-in-Err-Text-clause-refused
returns-in-Err-Text-clause-refused c =
    let read : c.in-Ok.text.now ≡ c.args.text.now = search rules in
    let told = c.tell_error.ensures in
    let cause = subst (IsJsonCause (parse_options c.options_of.result) c.in-Ok.text.now) c.in-Err-Text.field-0-is c.in-Err-Text.ensures.refused in
    no_json_text (parse_options c.options_of.result) (options_of c.args.options) c.args.text.now c.in-Ok.text.now read c.options_of.ensures c.in-Err-Text.error c.tell_error.result c.no_fault.result c.tell_error.new.fault c.no_fault.ensures
    cause.0 told.status told.untold told.made

pub returns-in-Err-NonFinite-clause-refused : goal.returns-in-Err-NonFinite-clause-refused
returns-in-Err-NonFinite-clause-refused c =
    let read : c.in-Ok.text.now ≡ c.args.text.now = search rules in
    IsNoJson.for_number c.in-Err-NonFinite.place c.tell_number.ensures.status (subst (λ (b : List ℕ). IsToldOfNumber b c.in-Err-NonFinite.place c.tell_number.new.fault) read c.tell_number.ensures.told)
