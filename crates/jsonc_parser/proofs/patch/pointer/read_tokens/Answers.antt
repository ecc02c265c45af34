use Rattle.std.proofs.Common.{◌∙◌, [], arith, append-nil, chars, map-id, refl, sym}
use Rattle.std.proofs.lemmas.Iterator.{YieldsList-from_chars}
use Rattle.std.proofs.lemmas.Iterator.Consumers.{YieldsList-end, YieldsList-so_far, YieldsList-turn}
use Rattle.jsonc_parser.specs.paths.Found.{names_of}
use Rattle.jsonc_parser.proofs.lemmas.patch.Texts.{all_read, char_fault, length_more, loose_tilde, nothing_read, read_so_far, within}
use Rattle.jsonc_parser.proofs.patch.pointer.read_tokens.Goals as goal

pub loop-c-init : goal.loop-c-init
loop-c-init g c = record { read = nothing_read c.new-tokens.result.items c.new-token.result c.new-tokens.ensures.items c.new-token.ensures.bytes; place = refl }

pub returns-in-Err-clause-fault : goal.returns-in-Err-clause-fault
returns-in-Err-clause-fault g c =
    let road = YieldsList-from_chars c.args.text.now c.utf8.text cc in
    let turn = YieldsList-turn road c.loop-c.yielded _ c.loop-c.yielded_by _ _ c.in-Some.c c.in-Some.is c.next.ensures.steps in
    let front = sym (map-id c.loop-c.yielded) ∙ YieldsList-so_far road c.loop-c.yielded _ c.loop-c.yielded_by in
    let r = read_so_far (chars c.args.text.now) c.loop-c.yielded c.in-Some.c front turn.0 turn.1 in
    char_fault (names_of c.loop-c.tokens.items) _ c.loop-c.yielded (chars c.args.text.now) c.loop-c.tilde c.loop-c.place c.in-Some.c c.in-Err.error c.loop-c.invariant.read c.loop-c.invariant.place r c.in-Err.ensures.fault

pub overflow_add-place : goal.overflow_add-place
overflow_add-place g c =
    let road = YieldsList-from_chars c.args.text.now c.utf8.text cc in
    let turn = YieldsList-turn road c.loop-c.yielded _ c.loop-c.yielded_by _ _ c.in-Some.c c.in-Some.is c.next.ensures.steps in
    let front = sym (map-id c.loop-c.yielded) ∙ YieldsList-so_far road c.loop-c.yielded _ c.loop-c.yielded_by in
    let r = read_so_far (chars c.args.text.now) c.loop-c.yielded c.in-Some.c front turn.0 turn.1 in
    let bound = within c.args.text.now c.loop-c.yielded c.in-Some.c c.utf8.text r in
    omega (arith, bound, c.loop-c.invariant.place, c.len_utf8-place.ensures.value)

pub loop-c-preserved : goal.loop-c-preserved
loop-c-preserved g c = record { read = c.in-Ok.ensures.read ∙ rw c.loop-c.invariant.read refl; place = rw (c.loop-c.invariant.place, c.len_utf8-place.ensures.value) (sym (length_more c.loop-c.yielded c.in-Some.c)) }

pub returns-then-tilde-clause-fault : goal.returns-then-tilde-clause-fault
returns-then-tilde-clause-fault g c =
    let end = YieldsList-end (YieldsList-from_chars c.args.text.now c.utf8.text cc) c.loop-c.yielded _ c.loop-c.yielded_by _ _ c.in-None.is c.next.ensures.steps in
    let all = sym (map-id c.loop-c.yielded) ∙ end.0 in
    loose_tilde (names_of c.loop-c.tokens.items) _ c.loop-c.yielded (chars c.args.text.now) [] c.loop-c.tilde c.loop-c.place c.loop-c.invariant.read c.if-tilde.true c.loop-c.invariant.place (sym all ∙ sym (append-nil c.loop-c.yielded)) refl

pub returns-clause-read : goal.returns-clause-read
returns-clause-read g c =
    let end = YieldsList-end (YieldsList-from_chars c.args.text.now c.utf8.text cc) c.loop-c.yielded _ c.loop-c.yielded_by _ _ c.in-None.is c.next.ensures.steps in
    let all = sym (map-id c.loop-c.yielded) ∙ end.0 in
    all_read c.loop-c.tokens.items c.end_token.new.tokens.items c.loop-c.token c.loop-c.tilde (chars c.args.text.now) c.loop-c.yielded c.in_ok-end_token.ensures.ended c.if-tilde.false all c.loop-c.invariant.read
