use Rattle.std.proofs.Common.{◌∙◌, ◌++◌, ap, map, map-id, sym}
use Rattle.std.proofs.lemmas.Iterator.{YieldsList-from_chars}
use Rattle.std.proofs.lemmas.Iterator.Consumers.{YieldsList-end}
use Rattle.jsonc_engine.specs.Texts.{text_of}
use Rattle.jsonc_engine.specs.Rewritten.{written_blank}
use Rattle.jsonc_engine.proofs.Gaps.{blank_more}
use Rattle.jsonc_engine.proofs.json.gap.push_blanks.Goals as goal

pub loop-blank-preserved : goal.loop-blank-preserved
loop-blank-preserved g c =
    blank_more (text_of c.args.written.now) (text_of c.loop-blank.written) (text_of c.put.new.written) c.loop-blank.yielded c.in-Some.blank c.written_blank.result c.loop-blank.invariant c.written_blank.ensures c.in_ok-put.ensures

pub returns : goal.returns
returns g c =
    let end = YieldsList-end (YieldsList-from_chars c.args.blanks.now c.utf8.blanks cc) c.loop-blank.yielded _ c.loop-blank.yielded_by _ _ c.in-None.is c.next.ensures.steps in
    let all = sym (map-id c.loop-blank.yielded) ∙ end.0 in
    c.loop-blank.invariant ∙ ap (λ b. text_of c.args.written.now ++ map written_blank b) all
