use Rattle.jsonc_engine.specs.Texts.{text_of}
use Rattle.jsonc_engine.proofs.NumberForms.{decimal_of, hex_adds, hex_numeral}
use Rattle.jsonc_engine.proofs.ToldTokens.{on_ok}
use Rattle.jsonc_engine.proofs.json.number.push_unsigned.Goals as goal

pub returns-in-Some : goal.returns-in-Some
returns-in-Some g c = λ m d h.
    let u = c.args.number.now in
    let ds = c.in-Some.digits.now in
    let p = c.in-Some.ensures.some in
    on_ok c.push_decimal.result (λ a. hex_adds u ds (text_of c.args.written.now) (text_of c.push_decimal.new.written) m d p.0 p.1 p.2 h (λ n. a))
    (c.push_decimal.ensures (hex_numeral u ds m d p.0 p.1 p.2 h))

pub returns-in-None : goal.returns-in-None
returns-in-None g c = λ m d h. c.push_point.ensures m d (decimal_of c.args.number.now m d h c.in-None.ensures.none)
