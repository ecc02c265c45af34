use Rattle.std.proofs.Common.{◌≡◌, IsUtf8, ap, option_map, rules, sym, ◌∙◌}
use Rattle.jsonc_text.specs.Options.{all_on}
use Rattle.jsonc_text.specs.OptionsOf.{parse_options}
use Rattle.jsonc_layout.specs.input.Views.{plain}
use Rattle.jsonc_c.specs.Edits.{for_json, for_value}
use Rattle.jsonc_c.proofs.Unread.{is_refusal, no_value, unread_text}
use Rattle.jsonc_c.proofs.read.value_of.Goals as goal

pub returns-in_default-clause-refused : goal.returns-in_default-clause-refused
returns-in_default-clause-refused c =
    let no : ¬ (IsUtf8 c.args.edit.now.json.now) = search rules in
    for_json c.requires no

pub returns-in-Ok-None-clause-refused : goal.returns-in-Ok-None-clause-refused
returns-in-Ok-None-clause-refused c =
    let all : parse_options c.default.result ≡ all_on = search rules in
    let read : c.in-Ok.json.now ≡ c.args.edit.now.json.now = search rules in
    let value = c.in-Ok-None.ensures.value in
    for_value c.requires (no_value c.args.edit.now.json.now c.in-Ok.json.now (parse_options c.default.result) value.value all read (sym (ap (option_map plain) c.in-Ok-None.field-0-is) ∙ value.collapsed) value.document)

pub returns-in-Err-clause-refused : goal.returns-in-Err-clause-refused
returns-in-Err-clause-refused c =
    let all : parse_options c.default.result ≡ all_on = search rules in
    let read : c.in-Ok.json.now ≡ c.args.edit.now.json.now = search rules in
    unread_text c.args.edit.now c.in-Err.error c.tell_error.result c.tell_error.new.fault c.requires
    (is_refusal (parse_options c.default.result) all_on c.args.edit.now.json.now c.in-Ok.json.now c.in-Err.error all read c.in-Err.ensures.fault c.in-Err.ensures.refused c.in-Err.ensures.error)
    c.tell_error.ensures.status
