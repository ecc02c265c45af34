use Rattle.std.proofs.Common.{◌≡◌, ◌++◌, ◌+◌, ◌<◌, ◌∙◌, sym, subst, arith, length, slice_index_or, encode_utf8}
use Rattle.std.proofs.lemmas.Str.{len_utf8_ascii}
use Rattle.std.specs.Char.{len_utf8}
use Rattle.jsonc_text.specs.Chars.{Steps}
use Rattle.jsonc_text.proofs.CharacterSteps.{rest_end, some_of_match, steps_ascii, steps_char}
use Rattle.jsonc_text.proofs.chars.char_at.Goals as goal

pub returns-then-place-bytes-clause-none : goal.returns-then-place-bytes-clause-none
returns-then-place-bytes-clause-none c = rest_end c.args.text.now c.args.place (rw c.as_bytes-bytes.ensures.value at c.if-place-bytes.true)

pub returns-then-byte-lt128-clause-some : goal.returns-then-byte-lt128-clause-some
returns-then-byte-lt128-clause-some c =
    let text = c.args.text.now in
    let place = c.args.place in
    let same = c.as_bytes-bytes.ensures.value in
    let byte = slice_index_or c.as_bytes-bytes.result.now place 0 in
    let inside : place < length text = omega (arith, rw same at c.if-place-bytes.false) in
    let here : Steps text place byte (place + 1) = rw same (steps_ascii text place c.utf8.text inside (rw same at c.if-byte-lt128.true)) in
    subst (λ n. Steps text place byte (place + n)) (sym (len_utf8_ascii byte c.if-byte-lt128.true)) here

pub returns-clause-some : goal.returns-clause-some
returns-clause-some c =
    some_of_match c.next.result _
    (λ x. c.chars.result.rest.now ≡ encode_utf8 x ++ c.next.new.self.rest.now)
    (λ x. Steps c.args.text.now c.args.place x (c.args.place + len_utf8 x))
    c.next.ensures.steps.0
    (λ x e. steps_char c.args.text.now c.next.new.self.rest.now c.args.place x c.utf8.text c.requires (sym c.range_from.ensures.value ∙ sym c.chars.ensures.rest ∙ e))
