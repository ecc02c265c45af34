use Rattle.std.proofs.Common.{ap}
use Rattle.jsonc_walk.specs.Context.{last, found_in}
use Rattle.std.proofs.Common.{inr, ◌∷◌, is_some, refl}
use Rattle.jsonc_walk.specs.Reached.{container, first}
use Rattle.jsonc_walk.proofs.lemmas.Stopping.{stops_here, open_stops}
use Rattle.jsonc_walk.specs.Context.{options_in}
use Rattle.jsonc_walk.specs.Refusals.{after}
use Rattle.jsonc_walk.proofs.lemmas.Refusals.{on_err, still, refuted, no_token_lexeme, nowhere_first, nothing_at_end, only_first}
use Rattle.jsonc_walk.proofs.lemmas.Tokens.{open_before, end_here, closes_none}
use Rattle.jsonc_walk.proofs.lemmas.Scans.{fault_before, told_anyhow}
use Rattle.std.proofs.Common.{subst}
use Rattle.jsonc_walk.specs.Handed.{at_place}
use Rattle.jsonc_walk.proofs.context.Context.first_item.Goals as goal

pub returns-in_err-first-clause-refused : goal.returns-in_err-first-clause-refused
returns-in_err-first-clause-refused g c =
    let old = c.args.self.now in
    on_err c.from_residual.result
    (still (λ n. nowhere_first (options_in old) c.args.container (after old) (no_token_lexeme old n)) c.in_err-first.ensures.refused)

pub returns-in_default-clause-refused : goal.returns-in_default-clause-refused
returns-in_default-clause-refused g c =
    let old = c.args.self.now in
    let read = c.in_ok-first.ensures in
    inr (nowhere_first (options_in old) c.args.container (after old) (nothing_at_end old c.scan.new.self (found_in c.scan.new.self c.in_ok-first.field-0) c.in_ok-first.ensures.kept read.found read.lexeme (ap (found_in c.scan.new.self) c.in_default.is)))

pub returns-clause-only : goal.returns-clause-only
returns-clause-only g c =
    let read = c.in_ok-first.ensures in
    only_first c.args.self.now c.scan.new.self (found_in c.scan.new.self c.in_ok-first.field-0) c.in_ok-first.ensures.kept read.found read.lexeme (last c.scan.new.self c.in-Some.first) (ap (found_in c.scan.new.self) c.in-Some.is) c.args.container
    (refuted c.closes.ensures.1 c.if-closes.false)

pub returns-clause-stands : goal.returns-clause-stands
returns-clause-stands g c =
    let read = c.in_ok-first.ensures in
    closes_none c.args.self.now c.scan.new.self (found_in c.scan.new.self c.in_ok-first.field-0) c.in_ok-first.ensures.kept read.found read.lexeme (last c.scan.new.self c.in-Some.first) (ap (found_in c.scan.new.self) c.in-Some.is) c.args.container (refuted c.closes.ensures.1 c.if-closes.false)

pub returns-in_err-first-clause-error : goal.returns-in_err-first-clause-error
returns-in_err-first-clause-error g c =
    let old = c.args.self.now in
    on_err c.from_residual.result
    (λ q a h. stops_here old (is_some c.args.start) (container c.args.container a ∷ q) (first c.args.container) c.scan.new.self.fault c.in_err-first.ensures.error)

pub returns-in_default-clause-error : goal.returns-in_default-clause-error
returns-in_default-clause-error g c =
    let old = c.args.self.now in
    let new = c.scan.new.self in
    let read = c.in_ok-first.ensures in
    let kept = c.in_ok-first.ensures.kept in
    open_stops old new (found_in c.scan.new.self c.in_ok-first.field-0) kept read.found read.lexeme (ap (found_in c.scan.new.self) c.in_default.is) c.args.container c.args.start c.stop_in.new.self.fault
    (open_before old new c.args.container c.args.start c.stop_in.new.self.fault kept (c.stop_in.ensures.error (end_here old new (found_in c.scan.new.self c.in_ok-first.field-0) kept read.found read.lexeme (ap (found_in c.scan.new.self) c.in_default.is)))) (first c.args.container) (λ whole q. refl)

pub returns-in_default-clause-fault : goal.returns-in_default-clause-fault
returns-in_default-clause-fault g c = fault_before c.args.self.now c.scan.new.self _ c.in_ok-first.ensures.kept (told_anyhow c.stop_in.ensures.fault)

pub scan-requires-clause-behind : goal.scan-requires-clause-behind
scan-requires-clause-behind g c = at_place c.requires.reached
