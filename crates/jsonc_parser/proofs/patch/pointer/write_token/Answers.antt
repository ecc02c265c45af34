use Rattle.std.proofs.Common.{◌∙◌, encode_utf8_all, map-id, refl, subst, sym, List, ℕ}
use Rattle.std.proofs.Output.{has_written_styled_append}
use Rattle.std.proofs.lemmas.Iterator.{YieldsList-from_chars}
use Rattle.std.proofs.lemmas.Iterator.Consumers.{YieldsList-end}
use Rattle.std.specs.Fmt.{HasWrittenStyled}
use Rattle.jsonc_parser.specs.patch.Pointer.{token_text}
use Rattle.jsonc_parser.proofs.lemmas.patch.Texts.{token_written}
use Rattle.jsonc_parser.proofs.patch.pointer.write_token.Goals as goal

pub loop-c-preserved : goal.loop-c-preserved
loop-c-preserved g c = λ flush.
    let so_far = c.loop-c.invariant flush in
    subst (λ (t : List ℕ). HasWrittenStyled g.W.Write.write_str_gives c.args.f.now t c.write_escaped.new.f) (token_written c.loop-c.yielded c.in-Some.c)
    (has_written_styled_append _ _ _ _ _ _ so_far (c.in_ok-write_escaped.ensures.styled so_far.flush refl))

pub returns-clause-styled : goal.returns-clause-styled
returns-clause-styled g c = λ flush ok.
    let end = YieldsList-end (YieldsList-from_chars c.args.token.now c.utf8.token cc) c.loop-c.yielded _ c.loop-c.yielded_by _ _ c.in-None.is c.next.ensures.steps in
    let all = sym (map-id c.loop-c.yielded) ∙ end.0 in
    subst (λ (s : List ℕ). HasWrittenStyled g.W.Write.write_str_gives c.args.f.now (encode_utf8_all (token_text s)) c.loop-c.f) all (c.loop-c.invariant flush)

pub returns-clause-writes : goal.returns-clause-writes
returns-clause-writes g c = λ plain ok.
    let w = returns-clause-styled g c plain.flush ok in
    record { wrote = w.wrote; plain = record { bare = rw w.spec plain.bare; flush = w.flush } }
