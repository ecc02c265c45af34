use Rattle.std.proofs.Common.{◌≡◌, rules, string_bytes, chars}
use Rattle.jsonc_text.specs.OptionsOf.{parse_options}
use Rattle.jsonc_c.specs.Formats.{style_of}
use Rattle.jsonc_c.specs.Options.{options_of}
use Rattle.jsonc_c.proofs.Formatting.{formatted_by, unformatted}
use Rattle.jsonc_c.proofs.format.formatted.Goals as goal

pub returns-in-Ok-format_text-clause-formatted : goal.returns-in-Ok-format_text-clause-formatted
returns-in-Ok-format_text-clause-formatted c =
    let same : parse_options c.options_of.result ≡ options_of c.args.options = search rules in
    let read : c.in-Ok.text.now ≡ c.args.text.now = search rules in
    formatted_by (parse_options c.options_of.result) (options_of c.args.options) c.args.text.now c.in-Ok.text.now same read c.style_of.result (style_of c.args.style.now)
    (chars (string_bytes c.in-Ok-format_text.made)) c.style_of.ensures c.in-Ok-format_text.ensures.formatted

pub returns-in-Err-clause-refused : goal.returns-in-Err-clause-refused
returns-in-Err-clause-refused c =
    let same : parse_options c.options_of.result ≡ options_of c.args.options = search rules in
    let read : c.in-Ok.text.now ≡ c.args.text.now = search rules in
    let e = c.in-Err.ensures in
    unformatted (parse_options c.options_of.result) (options_of c.args.options) c.args.text.now c.in-Ok.text.now same read c.in-Err.error c.tell_error.result c.tell_error.new.fault
    (record { fault = e.fault; refused = e.refused; error = e.error }) c.tell_error.ensures.status
