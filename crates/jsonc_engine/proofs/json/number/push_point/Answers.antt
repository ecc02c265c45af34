use Rattle.std.proofs.Common.{None, Some, lit<}
use Rattle.std.proofs.lemmas.Str.Pattern.{split_parts}
use Rattle.jsonc_engine.specs.Texts.{text_of}
use Rattle.jsonc_engine.proofs.NumberForms.{split_adds, whole_adds}
use Rattle.jsonc_engine.proofs.ToldTokens.{on_ok}
use Rattle.jsonc_engine.proofs.json.number.push_point.Goals as goal

pub returns-in-Some : goal.returns-in-Some
returns-in-Some g c = λ m d h.
    let u = c.args.number.now in
    let parts = c.in-Some.parts in
    let split = split_parts 0x2E u (Some parts) c.in-Some.ensures.cases (lit< tt) in
    on_ok c.push_parts.result (split_adds u parts.0.now parts.1.now (text_of c.args.written.now) (text_of c.push_parts.new.written) m d h split) c.push_parts.ensures

pub returns-in-None : goal.returns-in-None
returns-in-None g c = λ m d h.
    let u = c.args.number.now in
    on_ok c.put_all.result (whole_adds u (text_of c.args.written.now) (text_of c.put_all.new.written) m d h (split_parts 0x2E u None c.in-None.ensures.cases (lit< tt))) c.put_all.ensures
