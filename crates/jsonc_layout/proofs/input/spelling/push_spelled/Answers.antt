use Rattle.std.proofs.Common.{◌≡◌, ◌∙◌, ◌/◌, ◌%◌, ◌^◌, ◌-◌, ◌∷◌, [], false, Some, ap, option_map, sym}
use Rattle.std.specs.Fmt.{digit_glyph, styled_digits_output, padded_integral, format_spec}
use Rattle.std.proofs.lemmas.Fmt.{hex_byte}
use Rattle.jsonc_layout.proofs.lemmas.input.Spelled.{control_small}
use Rattle.jsonc_layout.proofs.lemmas.input.Written.{control_written}
use Rattle.jsonc_layout.proofs.input.spelling.push_spelled.Goals as goal

pub returns-then-is_control : goal.returns-then-is_control
returns-then-is_control g c =
    let control = sym c.if-is_control.ensures in
    let code = c.args.character in
    let digits : styled_digits_output c.in_radix.result c.laid_out.result ≡ Some (digit_glyph false (code / 16) ∷ digit_glyph false (code % 16) ∷ []) =
    rw c.laid_out.ensures
    (ap (option_map (padded_integral (format_spec 32 0 4 2 (2 ^ 64 - 1)) false [])) c.in_radix.ensures ∙ ap Some (hex_byte false code (control_small code control))) in
    control_written c.write.result _ _ _ code digits (sym c.in_default.ensures) control c.write.ensures.bytes
