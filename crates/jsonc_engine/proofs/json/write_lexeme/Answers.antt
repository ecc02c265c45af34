use Rattle.std.proofs.Common.{ap, chars, refl}
use Rattle.jsonc_text.specs.Lexemes.{lexeme}
use Rattle.jsonc_engine.specs.Texts.{text_of}
use Rattle.jsonc_engine.proofs.ToldTokens.{number_kind, number_text, number_told}
use Rattle.jsonc_engine.proofs.WrittenTokens.{all_written, by_itself, refused}
use Rattle.jsonc_engine.proofs.json.write_lexeme.Goals as goal

pub returns-then-is_refused-clause-stops : goal.returns-then-is_refused-clause-stops
returns-then-is_refused-clause-stops g c =
    let f = c.args.found.now in
    let h = c.requires in
    let q = number_told (chars f.string.now) f.kind h.is h.kind (c.if-is_refused.ensures.number refl) in
    refused c.args.text.now c.utf8.text f (text_of c.args.written.now) c.range.result.now h c.range.ensures.value q.0 c.mark_behind-mark.result q.1 c.mark_behind-mark.ensures (c.if-is_refused.ensures.value refl) (c.if-is_refused.ensures.non_finite refl)

pub returns-clause-written : goal.returns-clause-written
returns-clause-written g c =
    let t = c.args.text.now in
    let f = c.args.found.now in
    let h = c.requires in
    let v = chars f.string.now in
    let l = c.range.ensures.value in
    let alone = by_itself t c.utf8.text f (text_of c.args.written.now) c.range.result.now h l in
    let a = c.in_ok-push_token.ensures h.is h.kind alone (λ d n p i. c.if-is_refused.ensures.other refl (number_kind v f.kind (lexeme h.is) n h.kind (ap lexeme p)) d (number_text h.is (chars c.range.result.now) n p alone i)) in
    all_written t c.utf8.text f (text_of c.args.written.now) c.range.result.now h l (text_of c.push_token.new.written) c.mark_behind-mark.result c.mark_behind-mark.ensures a
