use Rattle.std.proofs.Common.{◌∙◌, ◌++◌, codes, encode_utf8_all, map-id, refl, subst, sym, List, ℕ}
use Rattle.std.proofs.Output.{has_written_styled_append}
use Rattle.std.proofs.lemmas.Iterator.{YieldsList-from_chars}
use Rattle.std.proofs.lemmas.Iterator.Consumers.{YieldsList-end}
use Rattle.std.specs.Fmt.{HasWrittenStyled}
use Rattle.jsonc_parser.specs.patch.Quoting.{shown_inside}
use Rattle.jsonc_parser.proofs.lemmas.patch.Shown.{shown_more}
use Rattle.jsonc_parser.proofs.patch.quoting.write_quoted.Goals as goal

pub loop-c-preserved : goal.loop-c-preserved
loop-c-preserved g c = λ flush.
    let so_far = c.loop-c.invariant flush in
    subst (λ (t : List ℕ). HasWrittenStyled g.W.Write.write_str_gives c.args.f.now t c.write_shown.new.f) (shown_more c.loop-c.yielded c.in-Some.c)
    (has_written_styled_append _ _ _ _ _ _ so_far (c.in_ok-write_shown.ensures so_far.flush refl))

pub returns : goal.returns
returns g c = λ flush ok.
    let end = YieldsList-end (YieldsList-from_chars c.args.text.now c.utf8.text cc) c.loop-c.yielded _ c.loop-c.yielded_by _ _ c.in-None.is c.next.ensures.steps in
    let all = sym (map-id c.loop-c.yielded) ∙ end.0 in
    let so_far = c.loop-c.invariant flush in
    subst (λ (s : List ℕ). HasWrittenStyled g.W.Write.write_str_gives c.args.f.now (encode_utf8_all (shown_inside s) ++ codes "\"") c.write_str.new.self) all
    (has_written_styled_append _ _ _ _ _ _ so_far (c.write_str.ensures.styled so_far.flush ok))
