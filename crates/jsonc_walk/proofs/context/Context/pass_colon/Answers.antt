use Rattle.std.proofs.Common.{ap}
use Rattle.jsonc_walk.specs.Context.{last, found_in}
use Rattle.std.proofs.Common.{inr}
use Rattle.jsonc_walk.specs.Reached.{colon}
use Rattle.jsonc_walk.proofs.lemmas.Stopping.{stops_here, colon_end_stops, colon_stops}
use Rattle.jsonc_walk.proofs.lemmas.Refusals.{on_err, still, refuted, no_token_colon, no_colon_at_end, no_colon}
use Rattle.jsonc_walk.proofs.lemmas.Scans.{fault_before, told_anyhow}
use Rattle.std.proofs.Common.{subst}
use Rattle.std.proofs.Common.{refl}
use Rattle.jsonc_walk.specs.Context.{text_in, options_in}
use Rattle.jsonc_walk.specs.Handed.{at_place, behind_mark}
use Rattle.jsonc_walk.proofs.lemmas.Following.{held_same}
use Rattle.jsonc_walk.proofs.lemmas.Scans.{at_token, token_is}
use Rattle.jsonc_walk.proofs.context.Context.pass_colon.Goals as goal

pub returns-in_err-token-clause-refused : goal.returns-in_err-token-clause-refused
returns-in_err-token-clause-refused g c =
    on_err c.from_residual.result (still (no_token_colon c.args.self.now) c.in_err-token.ensures.refused)

pub returns-in_default-clause-refused : goal.returns-in_default-clause-refused
returns-in_default-clause-refused g c =
    let read = c.in_ok-token.ensures in
    inr (no_colon_at_end c.args.self.now c.scan.new.self (found_in c.scan.new.self c.in_ok-token.field-0) c.in_ok-token.ensures.kept read.found read.lexeme (ap (found_in c.scan.new.self) c.in_default.is))

pub returns-then-not-is_colon-clause-refused : goal.returns-then-not-is_colon-clause-refused
returns-then-not-is_colon-clause-refused g c =
    let read = c.in_ok-token.ensures in
    inr (no_colon c.args.self.now c.scan.new.self (found_in c.scan.new.self c.in_ok-token.field-0) c.in_ok-token.ensures.kept read.found read.lexeme (last c.scan.new.self c.in-Some.token) (ap (found_in c.scan.new.self) c.in-Some.is)
    (refuted c.is_colon.ensures.1 c.if-not-is_colon.true))

pub returns-in_err-token-clause-error : goal.returns-in_err-token-clause-error
returns-in_err-token-clause-error g c =
    let old = c.args.self.now in
    on_err c.from_residual.result
    (λ whole q. stops_here old whole q colon c.scan.new.self.fault c.in_err-token.ensures.error)

pub returns-in_default-clause-error : goal.returns-in_default-clause-error
returns-in_default-clause-error g c =
    let read = c.in_ok-token.ensures in
    colon_end_stops c.args.self.now c.scan.new.self (found_in c.scan.new.self c.in_ok-token.field-0) c.in_ok-token.ensures.kept read.found read.lexeme (ap (found_in c.scan.new.self) c.in_default.is) c.stop_without_colon.new.self.fault c.stop_without_colon.ensures.kind c.stop_without_colon.ensures.range

pub returns-then-not-is_colon-clause-error : goal.returns-then-not-is_colon-clause-error
returns-then-not-is_colon-clause-error g c =
    let read = c.in_ok-token.ensures in
    colon_stops c.args.self.now c.scan.new.self (found_in c.scan.new.self c.in_ok-token.field-0) c.in_ok-token.ensures.kept read.found read.lexeme (last c.scan.new.self c.in-Some.token) (ap (found_in c.scan.new.self) c.in-Some.is) c.stop_without_colon-then-not-is_colon.new.self.fault
    (refuted c.is_colon.ensures.1 c.if-not-is_colon.true) c.stop_without_colon-then-not-is_colon.ensures.kind c.stop_without_colon-then-not-is_colon.ensures.range

pub returns-in_default-clause-fault : goal.returns-in_default-clause-fault
returns-in_default-clause-fault g c = fault_before c.args.self.now c.scan.new.self _ c.in_ok-token.ensures.kept (told_anyhow c.stop_without_colon.ensures.fault)

pub returns-then-not-is_colon-clause-fault : goal.returns-then-not-is_colon-clause-fault
returns-then-not-is_colon-clause-fault g c = fault_before c.args.self.now c.scan.new.self _ c.in_ok-token.ensures.kept (told_anyhow c.stop_without_colon-then-not-is_colon.ensures.fault)

pub scan-requires-clause-behind : goal.scan-requires-clause-behind
scan-requires-clause-behind g c = at_place c.requires.reached

pub returns-then-has_next-clause-behind : goal.returns-then-has_next-clause-behind
returns-then-has_next-clause-behind g c = behind_mark refl c.requires.reached c.pass_next_colon.ensures.next

pub returns-then-has_next-clause-held : goal.returns-then-has_next-clause-held
returns-then-has_next-clause-held g c = held_same c.args.to.now

pub returns-clause-behind : goal.returns-clause-behind
returns-clause-behind g c =
    let old = c.args.self.now in
    let new = c.scan.new.self in
    let kept = c.in_ok-token.ensures.kept in
    let read = c.in_ok-token.ensures in
    let f = found_in new c.in_ok-token.field-0 in
    let t = last new c.in-Some.token in
    behind_mark refl read.follows.reached
    (token_is (text_in old) (options_in old) new.scanner t 0x3A kept.text kept.options (at_token old new f t 0x3A kept read.found (ap (found_in new) c.in-Some.is)) (c.is_colon.ensures.0 c.if-not-is_colon.false))
