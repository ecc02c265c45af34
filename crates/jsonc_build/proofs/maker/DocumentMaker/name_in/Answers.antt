use Rattle.std.proofs.Common.{◌∙◌, sym}
use Rattle.jsonc_build.specs.Laid.{quoted_name, word_name}
use Rattle.jsonc_build.proofs.maker.DocumentMaker.name_in.Goals as goal

pub returns-then-is_quote_at : goal.returns-then-is_quote_at
returns-then-is_quote_at g c = quoted_name c.in_ok-name.ensures (sym c.is_quote_at.ensures ∙ c.if-is_quote_at.true)

pub returns : goal.returns
returns g c = word_name c.in_ok-name.ensures (sym c.is_quote_at.ensures ∙ c.if-is_quote_at.false)
