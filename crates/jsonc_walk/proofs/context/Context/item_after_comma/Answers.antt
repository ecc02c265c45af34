use Rattle.jsonc_walk.specs.Context.{last, found_in}
use Rattle.std.proofs.Common.{inr, sym, ap, ◌∙◌, ◌∷◌, is_some, refl}
use Rattle.jsonc_walk.specs.Refusals.{here}
use Rattle.jsonc_walk.specs.Reached.{container, further}
use Rattle.jsonc_walk.proofs.lemmas.Stopping.{stops_here, open_stops, trailing_stops}
use Rattle.jsonc_walk.specs.Context.{options_in}
use Rattle.jsonc_walk.specs.Refusals.{after}
use Rattle.jsonc_walk.proofs.lemmas.Refusals.{on_err, still, refuted, no_token_lexeme, nowhere_comma, nothing_at_end, only_after_comma, trailing_refused}
use Rattle.jsonc_walk.proofs.lemmas.Tokens.{open_before, end_here, closes_none}
use Rattle.jsonc_walk.proofs.lemmas.Scans.{fault_before, told_anyhow}
use Rattle.std.proofs.Common.{subst}
use Rattle.jsonc_walk.proofs.context.Context.item_after_comma.Goals as goal

pub returns-in_err-token-clause-refused : goal.returns-in_err-token-clause-refused
returns-in_err-token-clause-refused g c =
    let old = c.args.self.now in
    on_err c.from_residual.result
    (still (λ n. nowhere_comma (options_in old) c.args.container (after old) (no_token_lexeme old n)) c.in_err-token.ensures.refused)

pub returns-in_default-clause-refused : goal.returns-in_default-clause-refused
returns-in_default-clause-refused g c =
    let old = c.args.self.now in
    let read = c.in_ok-token.ensures in
    inr (nowhere_comma (options_in old) c.args.container (after old) (nothing_at_end old c.scan.new.self (found_in c.scan.new.self c.in_ok-token.field-0) c.in_ok-token.ensures.kept read.found read.lexeme (ap (found_in c.scan.new.self) c.in_default.is)))

pub returns-then-not-closes-clause-only : goal.returns-then-not-closes-clause-only
returns-then-not-closes-clause-only g c =
    let read = c.in_ok-token.ensures in
    only_after_comma c.args.self.now c.scan.new.self (found_in c.scan.new.self c.in_ok-token.field-0) c.in_ok-token.ensures.kept read.found read.lexeme (last c.scan.new.self c.in-Some.token) (ap (found_in c.scan.new.self) c.in-Some.is) c.args.container
    (refuted c.closes.ensures.1 c.if-not-closes.true)

pub returns-then-not-self-clause-refused : goal.returns-then-not-self-clause-refused
returns-then-not-self-clause-refused g c =
    let read = c.in_ok-token.ensures in
    let new = c.scan.new.self in
    inr (trailing_refused c.args.self.now new (found_in c.scan.new.self c.in_ok-token.field-0) c.in_ok-token.ensures.kept read.found read.lexeme (last c.scan.new.self c.in-Some.token) (ap (found_in c.scan.new.self) c.in-Some.is) c.args.container
    (c.closes.ensures.0 c.if-not-closes.false) (ap (λ p. p.trailing_commas) (sym (new.same ∙ c.in_ok-token.ensures.kept.options)) ∙ c.if-not-self.true))

pub returns-then-not-closes-clause-stands : goal.returns-then-not-closes-clause-stands
returns-then-not-closes-clause-stands g c =
    let read = c.in_ok-token.ensures in
    closes_none c.args.self.now c.scan.new.self (found_in c.scan.new.self c.in_ok-token.field-0) c.in_ok-token.ensures.kept read.found read.lexeme (last c.scan.new.self c.in-Some.token) (ap (found_in c.scan.new.self) c.in-Some.is) c.args.container (refuted c.closes.ensures.1 c.if-not-closes.true)

pub returns-in_err-token-clause-error : goal.returns-in_err-token-clause-error
returns-in_err-token-clause-error g c =
    let old = c.args.self.now in
    let k = c.args.container in
    on_err c.from_residual.result
    (λ one q a h. stops_here old (is_some c.args.start) (container k a ∷ q) (further k (here old)) c.scan.new.self.fault c.in_err-token.ensures.error)

pub returns-in_default-clause-error : goal.returns-in_default-clause-error
returns-in_default-clause-error g c = λ one.
    let old = c.args.self.now in
    let new = c.scan.new.self in
    let read = c.in_ok-token.ensures in
    let kept = c.in_ok-token.ensures.kept in
    open_stops old new (found_in c.scan.new.self c.in_ok-token.field-0) kept read.found read.lexeme (ap (found_in c.scan.new.self) c.in_default.is) c.args.container c.args.start c.stop_in.new.self.fault
    (open_before old new c.args.container c.args.start c.stop_in.new.self.fault kept (c.stop_in.ensures.error (end_here old new (found_in c.scan.new.self c.in_ok-token.field-0) kept read.found read.lexeme (ap (found_in c.scan.new.self) c.in_default.is)))) (further c.args.container (here old)) (λ whole q. refl)

pub returns-then-not-self-clause-error : goal.returns-then-not-self-clause-error
returns-then-not-self-clause-error g c = λ one q a from.
    let read = c.in_ok-token.ensures in
    let new = c.scan.new.self in
    trailing_stops c.args.self.now new (found_in c.scan.new.self c.in_ok-token.field-0) c.in_ok-token.ensures.kept read.found read.lexeme (last c.scan.new.self c.in-Some.token) (ap (found_in c.scan.new.self) c.in-Some.is) c.args.container (c.closes.ensures.0 c.if-not-closes.false) c.stop_at_comma.new.self.fault
    (ap (λ p. p.trailing_commas) (sym (new.same ∙ c.in_ok-token.ensures.kept.options)) ∙ c.if-not-self.true) c.stop_at_comma.ensures.kind (c.stop_at_comma.ensures.range ∙ c.range-comma.ensures) (is_some c.args.start) (container c.args.container a ∷ q) one

pub returns-in_default-clause-fault : goal.returns-in_default-clause-fault
returns-in_default-clause-fault g c = fault_before c.args.self.now c.scan.new.self _ c.in_ok-token.ensures.kept (told_anyhow c.stop_in.ensures.fault)

pub returns-then-not-self-clause-fault : goal.returns-then-not-self-clause-fault
returns-then-not-self-clause-fault g c = fault_before c.args.self.now c.scan.new.self _ c.in_ok-token.ensures.kept (told_anyhow c.stop_at_comma.ensures.fault)
