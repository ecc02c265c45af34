use Rattle.std.proofs.Common.{ap, sym, ◌++◌, ◌∙◌}
use Rattle.jsonc_engine.specs.Texts.{text_of}
use Rattle.jsonc_engine.specs.Rewritten.{or_zero}
use Rattle.jsonc_engine.proofs.NumberForms.{some_first}
use Rattle.std.proofs.lemmas.Str.{IsCharBoundary-start}
use Rattle.jsonc_engine.proofs.ToldTokens.{on_ok}
use Rattle.jsonc_engine.proofs.json.number.push_whole.Goals as goal

pub char_at-requires : goal.char_at-requires
char_at-requires g c = IsCharBoundary-start c.args.digits.now c.utf8.digits

pub returns-in-Some : goal.returns-in-Some
returns-in-Some g c = on_ok c.put_all.result (λ e. e ∙ ap (λ t. text_of c.args.written.now ++ t) (sym (some_first _ _ _ c.in-Some.ensures.some.0))) c.put_all.ensures

pub returns-in-None : goal.returns-in-None
returns-in-None g c = on_ok c.put.result (λ e. e ∙ ap (λ t. text_of c.args.written.now ++ t) (sym (ap or_zero c.in-None.ensures.none))) c.put.ensures
