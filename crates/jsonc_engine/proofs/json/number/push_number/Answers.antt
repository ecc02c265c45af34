use Rattle.jsonc_engine.specs.Texts.{text_of}
use Rattle.jsonc_engine.proofs.NumberForms.{number_adds, parts_of, unsigned_of}
use Rattle.jsonc_engine.proofs.ToldTokens.{on_ok}
use Rattle.std.proofs.Common.{chars}
use Rattle.jsonc_engine.proofs.json.number.push_number.Goals as goal

pub returns : goal.returns
returns g c = λ h finite.
    let s = c.args.number.now in
    let split = c.split_sign-negative in
    let t = split.result.1.now in
    let parts = parts_of (chars s) h finite in
    let value = unsigned_of s t split.result.0 c.utf8.number split.ensures.only parts in
    on_ok c.push_unsigned.result
    (number_adds s t (text_of c.args.written.now) (text_of c.push_sign.new.written) (text_of c.push_unsigned.new.written) split.result.0 c.utf8.number split.ensures.sign c.in_ok-push_sign.ensures parts)
    (c.push_unsigned.ensures value.0 value.1 value.2)
