use Rattle.std.proofs.Common.{chars, string_bytes, subst}
use Rattle.std.proofs.lemmas.Str.{IsUtf8-string_bytes}
use Rattle.jsonc_text.specs.OptionsOf.{parse_options}
use Rattle.jsonc_format.specs.Styles.{IsFormattedAs}
use Rattle.jsonc_format.specs.Wishes.{wish_of}
use Rattle.jsonc_program.proofs.formatting.formatted.Goals as goal

pub returns-in-Ok-format_text-clause-formatted : goal.returns-in-Ok-format_text-clause-formatted
returns-in-Ok-format_text-clause-formatted g c = record {
  input_text = c.in-Ok.ensures.cases.1;
  output_text = IsUtf8-string_bytes c.in-Ok-format_text.text;
  formatted = subst (λ s. IsFormattedAs (parse_options c.args.options.now) (wish_of c.args.style.now) (chars s) (chars (string_bytes c.in-Ok-format_text.text))) c.in-Ok.ensures.cases.0 c.in-Ok-format_text.ensures.formatted;
}
