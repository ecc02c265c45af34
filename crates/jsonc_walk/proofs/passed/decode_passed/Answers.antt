use Rattle.std.proofs.Common.{◌∙◌, ap, chars}
use Rattle.jsonc_text.specs.OptionsOf.{parse_options}
use Rattle.jsonc_text.proofs.lemmas.string.QuotedStrings.{either_quote}
use Rattle.jsonc_walk.proofs.lemmas.PassedStrings.{quote_there, quoted_there, same_value}
use Rattle.jsonc_walk.proofs.lemmas.Refusals.{ok_of}
use Rattle.jsonc_walk.proofs.passed.decode_passed.Goals as goal

pub opening_quote-requires-clause-opens : goal.opening_quote-requires-clause-opens
opening_quote-requires-clause-opens g c = quote_there (parse_options c.args.options.now) c.args.text.now _ c.args.range c.requires.stands

pub decode_string-requires-clause-quote : goal.decode_string-requires-clause-quote
decode_string-requires-clause-quote g c = either_quote (parse_options c.args.options.now) c.opening_quote.result c.opening_quote.ensures.allowed

pub unreachable-requires : goal.unreachable-requires
unreachable-requires g c = quoted_there (parse_options c.args.options.now) c.args.text.now _ c.args.range c.requires.stands c.opening_quote.result c.opening_quote.ensures (c.in-Err.ensures.none c.in_default.not-OutOfMemory)

pub returns-in-Ok : goal.returns-in-Ok
returns-in-Ok g c =
    ok_of c.into_owned.result (λ s h. ap chars h ∙ same_value (parse_options c.args.options.now) c.args.text.now _ c.args.range c.requires.stands c.opening_quote.result c.opening_quote.ensures _ _ c.in-Ok.ensures.found) c.into_owned.ensures.ok
