use Rattle.jsonc_walk.specs.Context.{last, found_in, found_by}
use Rattle.std.proofs.Common.{inr, sym, ap, ◌∙◌, ◌∷◌, Some, is_some, refl}
use Rattle.jsonc_text.specs.Lexemes.{lexeme, punctuation}
use Rattle.jsonc_walk.specs.Context.{text_in}
use Rattle.jsonc_walk.specs.Reached.{container, comma}
use Rattle.jsonc_walk.proofs.lemmas.Scans.{token_is, at_token}
use Rattle.jsonc_walk.proofs.lemmas.Stopping.{stops_here, open_stops, missing_stops, comma_stops, from_before}
use Rattle.jsonc_text.specs.Grammar.{plain, Closes}
use Rattle.jsonc_walk.specs.Containers.{closing}
use Rattle.jsonc_walk.specs.Context.{options_in}
use Rattle.jsonc_walk.proofs.lemmas.Scans.{closed, without_comma, after_comma}
use Rattle.jsonc_walk.specs.Refusals.{after}
use Rattle.jsonc_walk.proofs.lemmas.Collecting.{collects_on, ok_collects}
use Rattle.jsonc_walk.proofs.lemmas.Refusals.{on_err, ok_some, err_on, still, refuted, no_token_lexeme, nowhere_next, nothing_at_end, nothing_next, next_after_comma, missing_refused, only_next}
use Rattle.jsonc_walk.proofs.lemmas.Tokens.{open_before, end_here, closes_none, comes_after_ok}
use Rattle.jsonc_walk.proofs.lemmas.Scans.{fault_before, told_anyhow}
use Rattle.std.proofs.Common.{subst, OnErr}
use Rattle.jsonc_walk.proofs.lemmas.Scans.{kept_on}
use Rattle.jsonc_walk.specs.Handed.{at_place}
use Rattle.jsonc_walk.proofs.lemmas.Following.{follows_in, held_on, mark_behind, source_later, source_on}
use Rattle.jsonc_walk.proofs.context.Context.next_item.Goals as goal

pub returns-then-closes-clause-found : goal.returns-then-closes-clause-found
returns-then-closes-clause-found g c =
    closed c.args.self.now c.scan.new.self (found_in c.scan.new.self c.in_ok-token.field-0) (last c.scan.new.self c.in-Some.token) (closing c.args.container) c.in_ok-token.ensures.kept c.in_ok-token.ensures.found (ap (found_in c.scan.new.self) c.in-Some.is)
    (Closes (options_in c.args.self.now) (closing c.args.container)) (λ t r g. plain g) (c.closes.ensures.0 c.if-closes.true)

pub returns-then-is_comma-clause-found : goal.returns-then-is_comma-clause-found
returns-then-is_comma-clause-found g c =
    after_comma c.args.self.now c.scan.new.self c.item_after_comma-then-is_comma.new.self (found_in c.scan.new.self c.in_ok-token.field-0) (last c.scan.new.self c.in-Some.token) (closing c.args.container) (found_by c.item_after_comma-then-is_comma.new.self c.item_after_comma-then-is_comma.result) c.in_ok-token.ensures.kept c.in_ok-token.ensures.found (ap (found_in c.scan.new.self) c.in-Some.is)
    (c.is_comma.ensures.0 c.if-is_comma.true) c.item_after_comma-then-is_comma.ensures.found

pub returns-clause-found : goal.returns-clause-found
returns-clause-found g c =
    without_comma c.args.self.now c.scan.new.self (found_in c.scan.new.self c.in_ok-token.field-0) (last c.scan.new.self c.in-Some.token) 0 c.in_ok-token.ensures.kept c.in_ok-token.ensures.found (ap (found_in c.scan.new.self) c.in-Some.is) c.if-not-self.false

pub returns-in_err-token-clause-refused : goal.returns-in_err-token-clause-refused
returns-in_err-token-clause-refused g c =
    let old = c.args.self.now in
    on_err c.from_residual.result
    (still (λ n. nowhere_next (options_in old) c.args.container (after old) (no_token_lexeme old n)) c.in_err-token.ensures.refused)

pub returns-in_default-clause-refused : goal.returns-in_default-clause-refused
returns-in_default-clause-refused g c =
    let old = c.args.self.now in
    let read = c.in_ok-token.ensures in
    inr (nowhere_next (options_in old) c.args.container (after old) (nothing_at_end old c.scan.new.self (found_in c.scan.new.self c.in_ok-token.field-0) c.in_ok-token.ensures.kept read.found read.lexeme (ap (found_in c.scan.new.self) c.in_default.is)))

pub returns-then-is_comma-clause-only : goal.returns-then-is_comma-clause-only
returns-then-is_comma-clause-only g c =
    let read = c.in_ok-token.ensures in
    ok_some (found_by c.item_after_comma-then-is_comma.new.self c.item_after_comma-then-is_comma.result)
    (λ t. next_after_comma c.args.self.now c.scan.new.self (found_in c.scan.new.self c.in_ok-token.field-0) c.in_ok-token.ensures.kept read.found read.lexeme (last c.scan.new.self c.in-Some.token) (ap (found_in c.scan.new.self) c.in-Some.is) c.args.container (c.is_comma.ensures.0 c.if-is_comma.true) c.item_after_comma-then-is_comma.new.self)
    c.item_after_comma-then-is_comma.ensures.only

pub returns-then-is_comma-clause-refused : goal.returns-then-is_comma-clause-refused
returns-then-is_comma-clause-refused g c =
    let read = c.in_ok-token.ensures in
    let old = c.args.self.now in
    let new = c.scan.new.self in
    err_on c.item_after_comma-then-is_comma.result
    (still (nothing_next old new (found_in c.scan.new.self c.in_ok-token.field-0) c.in_ok-token.ensures.kept read.found read.lexeme (last c.scan.new.self c.in-Some.token) (ap (found_in c.scan.new.self) c.in-Some.is) c.args.container (c.is_comma.ensures.0 c.if-is_comma.true)))
    c.item_after_comma-then-is_comma.ensures.refused

pub returns-then-not-self-clause-refused : goal.returns-then-not-self-clause-refused
returns-then-not-self-clause-refused g c =
    let read = c.in_ok-token.ensures in
    let new = c.scan.new.self in
    inr (missing_refused c.args.self.now new (found_in c.scan.new.self c.in_ok-token.field-0) c.in_ok-token.ensures.kept read.found read.lexeme (last c.scan.new.self c.in-Some.token) (ap (found_in c.scan.new.self) c.in-Some.is) c.args.container
    (refuted c.closes.ensures.1 c.if-closes.false) (refuted c.is_comma.ensures.1 c.if-is_comma.false)
    (ap (λ p. p.missing_commas) (sym (new.same ∙ c.in_ok-token.ensures.kept.options)) ∙ c.if-not-self.true))

pub returns-clause-only : goal.returns-clause-only
returns-clause-only g c =
    let read = c.in_ok-token.ensures in
    only_next c.args.self.now c.scan.new.self (found_in c.scan.new.self c.in_ok-token.field-0) c.in_ok-token.ensures.kept read.found read.lexeme (last c.scan.new.self c.in-Some.token) (ap (found_in c.scan.new.self) c.in-Some.is) c.args.container
    (refuted c.closes.ensures.1 c.if-closes.false) (refuted c.is_comma.ensures.1 c.if-is_comma.false)

pub returns-then-is_comma-clause-collects : goal.returns-then-is_comma-clause-collects
returns-then-is_comma-clause-collects g c =
    ok_collects c.item_after_comma-then-is_comma.result (collects_on c.args.self.now c.scan.new.self c.item_after_comma-then-is_comma.new.self c.in_ok-token.ensures.kept c.in_ok-token.ensures.collects) c.item_after_comma-then-is_comma.ensures.collects

pub returns-clause-stands : goal.returns-clause-stands
returns-clause-stands g c =
    let read = c.in_ok-token.ensures in
    closes_none c.args.self.now c.scan.new.self (found_in c.scan.new.self c.in_ok-token.field-0) c.in_ok-token.ensures.kept read.found read.lexeme (last c.scan.new.self c.in-Some.token) (ap (found_in c.scan.new.self) c.in-Some.is) c.args.container (refuted c.closes.ensures.1 c.if-closes.false)

pub returns-then-is_comma-clause-comes : goal.returns-then-is_comma-clause-comes
returns-then-is_comma-clause-comes g c =
    let read = c.in_ok-token.ensures in
    comes_after_ok c.args.self.now c.scan.new.self (found_in c.scan.new.self c.in_ok-token.field-0) c.in_ok-token.ensures.kept read.found read.lexeme (last c.scan.new.self c.in-Some.token) (ap (found_in c.scan.new.self) c.in-Some.is) c.args.container c.item_after_comma-then-is_comma.new.self (found_by c.item_after_comma-then-is_comma.new.self c.item_after_comma-then-is_comma.result)
    (c.is_comma.ensures.0 c.if-is_comma.true) c.item_after_comma-then-is_comma.ensures.found

pub returns-clause-comes : goal.returns-clause-comes
returns-clause-comes g c = inr (c.in_ok-token.ensures.found.0, refuted c.is_comma.ensures.1 c.if-is_comma.false)

pub returns-in_err-token-clause-error : goal.returns-in_err-token-clause-error
returns-in_err-token-clause-error g c =
    let old = c.args.self.now in
    let k = c.args.container in
    on_err c.from_residual.result
    (λ q a h. stops_here old (is_some c.args.start) (container k a ∷ q) (comma k (after old)) c.scan.new.self.fault c.in_err-token.ensures.error)

pub returns-in_default-clause-error : goal.returns-in_default-clause-error
returns-in_default-clause-error g c =
    let old = c.args.self.now in
    let new = c.scan.new.self in
    let read = c.in_ok-token.ensures in
    let kept = c.in_ok-token.ensures.kept in
    open_stops old new (found_in c.scan.new.self c.in_ok-token.field-0) kept read.found read.lexeme (ap (found_in c.scan.new.self) c.in_default.is) c.args.container c.args.start c.stop_in.new.self.fault
    (open_before old new c.args.container c.args.start c.stop_in.new.self.fault kept (c.stop_in.ensures.error (end_here old new (found_in c.scan.new.self c.in_ok-token.field-0) kept read.found read.lexeme (ap (found_in c.scan.new.self) c.in_default.is)))) (comma c.args.container (after old)) (λ whole q. refl)

pub returns-then-is_comma-clause-error : goal.returns-then-is_comma-clause-error
returns-then-is_comma-clause-error g c =
    let old = c.args.self.now in
    let new = c.scan.new.self in
    let f = (found_in c.scan.new.self c.in_ok-token.field-0) in
    let read = c.in_ok-token.ensures in
    let kept = c.in_ok-token.ensures.kept in
    let mark = c.is_comma.ensures.0 c.if-is_comma.true in
    let one = token_is (text_in new) (options_in new) new.scanner (last c.scan.new.self c.in-Some.token) 0x2C refl refl (at_token old new f (last c.scan.new.self c.in-Some.token) 0x2C kept read.found (ap (found_in c.scan.new.self) c.in-Some.is)) mark in
    err_on c.item_after_comma-then-is_comma.result
    (λ told q a from. comma_stops old new f kept read.found read.lexeme (last c.scan.new.self c.in-Some.token) (ap (found_in c.scan.new.self) c.in-Some.is) mark c.args.container c.item_after_comma-then-is_comma.new.self.fault (is_some c.args.start) (container c.args.container a ∷ q) one
    (told one q a (from_before old new kept c.args.start a from)))
    c.item_after_comma-then-is_comma.ensures.error

pub returns-then-not-self-clause-error : goal.returns-then-not-self-clause-error
returns-then-not-self-clause-error g c = λ q a from.
    let old = c.args.self.now in
    let new = c.scan.new.self in
    let read = c.in_ok-token.ensures in
    missing_stops old new (found_in c.scan.new.self c.in_ok-token.field-0) c.in_ok-token.ensures.kept read.found read.lexeme (last c.scan.new.self c.in-Some.token) (ap (found_in c.scan.new.self) c.in-Some.is) c.args.container c.stop_for_comma.new.self.fault c.token_end-end.result
    (ap (λ p. p.missing_commas) (sym (new.same ∙ c.in_ok-token.ensures.kept.options)) ∙ c.if-not-self.true) c.token_end-end.ensures (refuted c.closes.ensures.1 c.if-closes.false) (refuted c.is_comma.ensures.1 c.if-is_comma.false)
    c.stop_for_comma.ensures.comma c.stop_for_comma.ensures.misplaced (is_some c.args.start) (container c.args.container a ∷ q)

pub returns-then-has_next-clause-found : goal.returns-then-has_next-clause-found
returns-then-has_next-clause-found g c =
    let passed = c.pass_next_comma.ensures in
    after_comma c.args.self.now c.pass_next_comma.new.self c.item_after_comma.new.self (Some (lexeme (punctuation 0x2C))) (lexeme (punctuation 0x2C)) (closing c.args.container) (found_by c.item_after_comma.new.self c.item_after_comma.result) passed.kept passed.found refl
    refl c.item_after_comma.ensures.found

pub returns-then-has_next-clause-only : goal.returns-then-has_next-clause-only
returns-then-has_next-clause-only g c =
    let passed = c.pass_next_comma.ensures in
    ok_some (found_by c.item_after_comma.new.self c.item_after_comma.result)
    (λ t. next_after_comma c.args.self.now c.pass_next_comma.new.self (Some (lexeme (punctuation 0x2C))) passed.kept passed.found refl (lexeme (punctuation 0x2C)) refl c.args.container refl c.item_after_comma.new.self)
    c.item_after_comma.ensures.only

pub returns-then-has_next-clause-refused : goal.returns-then-has_next-clause-refused
returns-then-has_next-clause-refused g c =
    let passed = c.pass_next_comma.ensures in
    err_on c.item_after_comma.result
    (still (nothing_next c.args.self.now c.pass_next_comma.new.self (Some (lexeme (punctuation 0x2C))) passed.kept passed.found refl (lexeme (punctuation 0x2C)) refl c.args.container refl))
    c.item_after_comma.ensures.refused

pub returns-then-has_next-clause-collects : goal.returns-then-has_next-clause-collects
returns-then-has_next-clause-collects g c =
    let passed = c.pass_next_comma.ensures in
    ok_collects c.item_after_comma.result (collects_on c.args.self.now c.pass_next_comma.new.self c.item_after_comma.new.self passed.kept passed.collects) c.item_after_comma.ensures.collects

pub returns-then-has_next-clause-comes : goal.returns-then-has_next-clause-comes
returns-then-has_next-clause-comes g c =
    let passed = c.pass_next_comma.ensures in
    comes_after_ok c.args.self.now c.pass_next_comma.new.self (Some (lexeme (punctuation 0x2C))) passed.kept passed.found refl (lexeme (punctuation 0x2C)) refl c.args.container c.item_after_comma.new.self (found_by c.item_after_comma.new.self c.item_after_comma.result)
    refl c.item_after_comma.ensures.found

pub returns-then-has_next-clause-error : goal.returns-then-has_next-clause-error
returns-then-has_next-clause-error g c =
    let old = c.args.self.now in
    let new = c.pass_next_comma.new.self in
    let passed = c.pass_next_comma.ensures in
    let kept = passed.kept in
    let one = token_is (text_in new) (options_in new) new.scanner (lexeme (punctuation 0x2C)) 0x2C refl refl (at_token old new (Some (lexeme (punctuation 0x2C))) (lexeme (punctuation 0x2C)) 0x2C kept passed.found refl) refl in
    err_on c.item_after_comma.result
    (λ told q a from. comma_stops old new (Some (lexeme (punctuation 0x2C))) kept passed.found refl (lexeme (punctuation 0x2C)) refl refl c.args.container c.item_after_comma.new.self.fault (is_some c.args.start) (container c.args.container a ∷ q) one
    (told one q a (from_before old new kept c.args.start a from)))
    c.item_after_comma.ensures.error

pub returns-in_default-clause-fault : goal.returns-in_default-clause-fault
returns-in_default-clause-fault g c = fault_before c.args.self.now c.scan.new.self _ c.in_ok-token.ensures.kept (told_anyhow c.stop_in.ensures.fault)

pub returns-then-not-self-clause-fault : goal.returns-then-not-self-clause-fault
returns-then-not-self-clause-fault g c = fault_before c.args.self.now c.scan.new.self _ c.in_ok-token.ensures.kept (told_anyhow c.stop_for_comma.ensures.fault)

pub returns-then-is_comma-clause-kept : goal.returns-then-is_comma-clause-kept
returns-then-is_comma-clause-kept g c = ok_collects c.item_after_comma-then-is_comma.result (kept_on c.args.self.now c.scan.new.self c.item_after_comma-then-is_comma.new.self c.in_ok-token.ensures.kept) c.item_after_comma-then-is_comma.ensures.kept

pub returns-then-is_comma-clause-fault : goal.returns-then-is_comma-clause-fault
returns-then-is_comma-clause-fault g c = err_on c.item_after_comma-then-is_comma.result (fault_before c.args.self.now c.scan.new.self _ c.in_ok-token.ensures.kept) c.item_after_comma-then-is_comma.ensures.fault

pub returns-then-has_next-clause-kept : goal.returns-then-has_next-clause-kept
returns-then-has_next-clause-kept g c = ok_collects c.item_after_comma.result (kept_on c.args.self.now c.pass_next_comma.new.self c.item_after_comma.new.self c.pass_next_comma.ensures.kept) c.item_after_comma.ensures.kept

pub returns-then-has_next-clause-fault : goal.returns-then-has_next-clause-fault
returns-then-has_next-clause-fault g c = err_on c.item_after_comma.result (fault_before c.args.self.now c.pass_next_comma.new.self _ c.pass_next_comma.ensures.kept) c.item_after_comma.ensures.fault

pub scan-requires-clause-behind : goal.scan-requires-clause-behind
scan-requires-clause-behind g c = at_place c.requires.reached

pub item_after_comma-requires-clause-source : goal.item_after_comma-requires-clause-source
item_after_comma-requires-clause-source g c = source_on c.args.self.now c.pass_next_comma.new.self _ c.pass_next_comma.ensures.kept c.requires.source

pub item_after_comma-requires-clause-behind : goal.item_after_comma-requires-clause-behind
item_after_comma-requires-clause-behind g c =
    mark_behind c.args.self.now c.pass_next_comma.new.self (g.R.Receiver.reached c.args.to.now) 0x2C _ refl c.pass_next_comma.ensures.kept c.requires.reached c.pass_next_comma.ensures.next

pub returns-then-has_next-clause-follows : goal.returns-then-has_next-clause-follows
returns-then-has_next-clause-follows g c = ok_collects c.item_after_comma.result (follows_in (source_later c.args.self.now c.pass_next_comma.new.self c.pass_next_comma.ensures.kept) refl) c.item_after_comma.ensures.follows

pub item_after_comma-requires-then-is_comma-clause-source : goal.item_after_comma-requires-then-is_comma-clause-source
item_after_comma-requires-then-is_comma-clause-source g c = source_on c.args.self.now c.scan.new.self _ c.in_ok-token.ensures.kept (c.in_ok-token.ensures.source ∙ c.requires.source)

pub item_after_comma-requires-then-is_comma-clause-behind : goal.item_after_comma-requires-then-is_comma-clause-behind
item_after_comma-requires-then-is_comma-clause-behind g c =
    let old = c.args.self.now in
    let new = c.scan.new.self in
    let kept = c.in_ok-token.ensures.kept in
    let read = c.in_ok-token.ensures in
    let f = found_in new c.in_ok-token.field-0 in
    let t = last new c.in-Some.token in
    mark_behind old new (g.R.Receiver.reached c.scan.new.to) 0x2C _ refl kept read.follows.reached
    (token_is (text_in old) (options_in old) new.scanner t 0x2C kept.text kept.options (at_token old new f t 0x2C kept read.found (ap (found_in new) c.in-Some.is)) (c.is_comma.ensures.0 c.if-is_comma.true))

pub returns-then-is_comma-clause-source : goal.returns-then-is_comma-clause-source
returns-then-is_comma-clause-source g c = ok_collects c.item_after_comma-then-is_comma.result (λ e. e ∙ c.in_ok-token.ensures.source) c.item_after_comma-then-is_comma.ensures.source

pub returns-then-is_comma-clause-follows : goal.returns-then-is_comma-clause-follows
returns-then-is_comma-clause-follows g c = ok_collects c.item_after_comma-then-is_comma.result (follows_in (source_later c.args.self.now c.scan.new.self c.in_ok-token.ensures.kept) refl) c.item_after_comma-then-is_comma.ensures.follows

pub returns-then-is_comma-clause-held : goal.returns-then-is_comma-clause-held
returns-then-is_comma-clause-held g c = ok_collects c.item_after_comma-then-is_comma.result (held_on c.in_ok-token.ensures.held) c.item_after_comma-then-is_comma.ensures.held
