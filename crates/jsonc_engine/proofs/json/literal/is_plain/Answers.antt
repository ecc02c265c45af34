use Rattle.std.proofs.Common.{◌∙◌, chars, map-id, refl, sym}
use Rattle.std.proofs.lemmas.Iterator.{YieldsList-from_chars}
use Rattle.std.proofs.lemmas.Iterator.Consumers.{YieldsList-end, YieldsList-so_far, YieldsList-turn}
use Rattle.jsonc_parser.proofs.lemmas.patch.Texts.{read_so_far}
use Rattle.jsonc_engine.proofs.Strings.{plain_end, plain_step, plain_stop}
use Rattle.jsonc_engine.proofs.json.literal.is_plain.Goals as goal

pub loop-c-init : goal.loop-c-init
loop-c-init c = λ rest. refl

pub returns-then-not-may_stand : goal.returns-then-not-may_stand
returns-then-not-may_stand c =
    let road = YieldsList-from_chars c.args.text.now c.utf8.text cc in
    let turn = YieldsList-turn road c.loop-c.yielded _ c.loop-c.yielded_by _ _ c.in-Some.c c.in-Some.is c.next.ensures.steps in
    let front = sym (map-id c.loop-c.yielded) ∙ YieldsList-so_far road c.loop-c.yielded _ c.loop-c.yielded_by in
    let r = read_so_far (chars c.args.text.now) c.loop-c.yielded c.in-Some.c front turn.0 turn.1 in
    plain_stop (chars c.args.text.now) c.loop-c.yielded r.rest c.in-Some.c c.loop-c.escaped c.loop-c.invariant r.is c.if-not-may_stand.ensures

pub loop-c-preserved : goal.loop-c-preserved
loop-c-preserved c = plain_step c.loop-c.yielded c.in-Some.c c.loop-c.escaped _ c.loop-c.invariant c.if-not-may_stand.ensures refl

pub returns : goal.returns
returns c =
    let end = YieldsList-end (YieldsList-from_chars c.args.text.now c.utf8.text cc) c.loop-c.yielded _ c.loop-c.yielded_by _ _ c.in-None.is c.next.ensures.steps in
    let all = sym (map-id c.loop-c.yielded) ∙ end.0 in
    plain_end (chars c.args.text.now) c.loop-c.yielded c.loop-c.escaped c.loop-c.invariant all
