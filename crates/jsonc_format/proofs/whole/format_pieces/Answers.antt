use Rattle.std.proofs.Common.{◌∙◌}
use Rattle.jsonc_text.specs.OptionsOf.{parse_options}
use Rattle.jsonc_format.specs.Wishes.{wish_of}
use Rattle.jsonc_format.specs.Writing.{style_in, text_of}
use Rattle.jsonc_format.proofs.Results.{if_ok}
use Rattle.jsonc_format.proofs.Wholes.{whole}
use Rattle.jsonc_format.proofs.whole.format_pieces.Goals as goal

pub returns-clause-formatted : goal.returns-clause-formatted
returns-clause-formatted g c =
    if_ok c.print.result c.print.ensures.printed (λ s p. whole (parse_options c.args.options.now) (wish_of c.args.style.now) (style_in c.in_ok-layout.layout) c.args.text.now c.in_ok-flat.flat.items c.as_slice.result.now (text_of s)
    c.in_ok-flat.ensures.flags (c.as_slice.ensures.value ∙ c.shrink_to_fit.ensures.items) c.in_ok-layout.ensures.found p)
