use Rattle.std.proofs.Common.{◌≡◌, ◌∙◌, ◌++◌, ◌+◌, ◌<◌, get_or, length, ap, chars, encode_utf8_all, refl, string_bytes, subst, take, List, ℕ}
use Rattle.std.proofs.Output.{has_written_styled_append}
use Rattle.std.specs.Fmt.{HasWrittenStyled}
use Rattle.jsonc_parser.specs.paths.Found.{names_of}
use Rattle.jsonc_parser.specs.patch.Pointer.{pointer_text, token_text}
use Rattle.jsonc_parser.proofs.lemmas.patch.Texts.{names_written}
use Rattle.jsonc_parser.proofs.patch.pointer.PointerDisplay.fmt.Goals as goal

pub loop-token-preserved : goal.loop-token-preserved
loop-token-preserved g c = λ flush.
    let so_far = c.loop-token.invariant flush in
    let items = c.args.self.now.tokens.items in
    let k = c.loop-token.token-index in
    let before : List ℕ = encode_utf8_all (pointer_text (names_of (take k items))) in
    let text : before ++ encode_utf8_all (token_text (chars c.as_str.result.now)) ≡ encode_utf8_all (pointer_text (names_of (take (k + 1) items))) =
    ap (λ t. before ++ encode_utf8_all (token_text (chars t))) c.as_str.ensures.value
    ∙ ap (λ s. before ++ encode_utf8_all (token_text (chars (string_bytes s)))) c.token-item.is
    ∙ ap (λ l. before ++ encode_utf8_all (token_text (chars (string_bytes (get_or l k c.token-item.result))))) c.deref-token-items.ensures.value
    ∙ names_written items k c.token-item.result (subst (λ l. k < length l) c.deref-token-items.ensures.value c.loop-token-test.true) in
    subst (λ (t : List ℕ). HasWrittenStyled g.W.Write.write_str_gives c.args.f.now t c.write_token.new.f) text
    (has_written_styled_append _ _ _ _ _ _ so_far (c.in_ok-write_token.ensures.styled so_far.flush refl))
