use Rattle.std.proofs.Common.{ap, chars, ◌++◌, ◌∙◌}
use Rattle.jsonc_engine.specs.Texts.{text_of}
use Rattle.jsonc_engine.proofs.NumberForms.{pointed}
use Rattle.jsonc_engine.proofs.ToldTokens.{on_ok}
use Rattle.jsonc_engine.proofs.json.number.push_behind.Goals as goal

pub returns-then-has_digit : goal.returns-then-has_digit
returns-then-has_digit g c = on_ok c.push_pointed.result (λ e. e ∙ ap (λ b. text_of c.args.written.now ++ pointed b (chars c.args.behind.now)) c.if-has_digit.ensures) c.push_pointed.ensures

pub returns-else-has_digit : goal.returns-else-has_digit
returns-else-has_digit g c = on_ok c.put_all.result (λ e. e ∙ ap (λ b. text_of c.args.written.now ++ pointed b (chars c.args.behind.now)) c.if-has_digit.ensures) c.put_all.ensures
