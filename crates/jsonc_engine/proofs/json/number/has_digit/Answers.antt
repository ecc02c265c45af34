use Rattle.std.proofs.Common.{ap, sym, ◌∙◌}
use Rattle.std.proofs.lemmas.Str.{IsCharBoundary-start}
use Rattle.jsonc_text.specs.Text.{is_digit, next, starts}
use Rattle.jsonc_engine.proofs.json.number.has_digit.Goals as goal

pub char_at-requires : goal.char_at-requires
char_at-requires c = IsCharBoundary-start c.args.text.now c.utf8.text

pub returns-in-Some : goal.returns-in-Some
returns-in-Some c = c.is_ascii_digit.ensures.value ∙ sym (ap (λ t. starts is_digit (next t)) c.in-Some.ensures.some.0)

pub returns-in-None : goal.returns-in-None
returns-in-None c = sym (ap (λ t. starts is_digit (next t)) c.in-None.ensures.none)
