use Rattle.std.proofs.Common.{Some, inr, sym, subst}
use Rattle.jsonc_text.specs.Gaps.{Gap}
use Rattle.jsonc_scan.specs.Scanner.{end_of}
use Rattle.jsonc_walk.specs.Located.{Between}
use Rattle.jsonc_walk.specs.Context.{found_by, last, options_in, text_in, token_end}
use Rattle.jsonc_walk.proofs.lemmas.Collecting.{collects_on, ok_collects}
use Rattle.jsonc_walk.proofs.lemmas.MovedTokens.{collects_self, kept_self}
use Rattle.jsonc_walk.proofs.lemmas.PassedGaps.{reaches_token}
use Rattle.jsonc_walk.proofs.lemmas.Plains.{finds_before, follows_on, no_token_before, on_ok, told_before}
use Rattle.jsonc_walk.proofs.lemmas.Refusals.{err_on, ok_of, still}
use Rattle.jsonc_walk.proofs.lemmas.Scans.{failure, fault_before, kept_on, starved, told_anyhow}
use Rattle.jsonc_walk.proofs.context.Context.scan.Goals as goal

pub returns-in-Some-clause-kept : goal.returns-in-Some-clause-kept
returns-in-Some-clause-kept g c =
    let old = c.args.self.now in
    let mid = c.pass_gap.new.self in
    let kept = c.pass_gap.ensures.kept in
    let gap = c.in-Ok.ensures.gap in
    kept_on old mid c.pass_plain.new.self kept c.in-Some.ensures.kept

pub returns-in-Some-clause-found : goal.returns-in-Some-clause-found
returns-in-Some-clause-found g c =
    let old = c.args.self.now in
    let mid = c.pass_gap.new.self in
    let kept = c.pass_gap.ensures.kept in
    let gap = c.in-Ok.ensures.gap in
    finds_before old mid kept gap c.pass_plain.new.self (Some (last c.pass_plain.new.self c.in-Some.token)) c.in-Some.ensures.found

pub returns-in-Some-clause-collects : goal.returns-in-Some-clause-collects
returns-in-Some-clause-collects g c =
    let old = c.args.self.now in
    let mid = c.pass_gap.new.self in
    let kept = c.pass_gap.ensures.kept in
    let gap = c.in-Ok.ensures.gap in
    collects_on old mid c.pass_plain.new.self kept c.in-Ok.ensures.collects c.in-Some.ensures.collects

pub returns-in-Some-clause-follows : goal.returns-in-Some-clause-follows
returns-in-Some-clause-follows g c =
    let old = c.args.self.now in
    let mid = c.pass_gap.new.self in
    let kept = c.pass_gap.ensures.kept in
    let gap = c.in-Ok.ensures.gap in
    reaches_token old c.pass_plain.new.self (g.R.Receiver.reached c.pass_gap.new.to) (Some (last c.pass_plain.new.self c.in-Some.token)) (returns-in-Some-clause-kept g c) c.in-Ok.ensures.reached (returns-in-Some-clause-found g c) c.in-Some.ensures.lexeme

pub returns-in-None-clause-kept : goal.returns-in-None-clause-kept
returns-in-None-clause-kept g c =
    let old = c.args.self.now in
    let on = c.pass_plain.new.self in
    let new = c.scan_on.new.self in
    let r = c.scan_on.result in
    let gives = c.in-None.ensures.none in
    let kept = kept_on old c.pass_gap.new.self on c.pass_gap.ensures.kept (kept_self c.pass_gap.new.self on gives) in
    let gap = subst (λ s. Between (text_in old) (Gap (options_in old)) (token_end old) (end_of s)) (sym gives.scanner) c.in-Ok.ensures.gap in
    ok_collects r (kept_on old on new kept) c.scan_on.ensures.kept

pub returns-in-None-clause-found : goal.returns-in-None-clause-found
returns-in-None-clause-found g c =
    let old = c.args.self.now in
    let on = c.pass_plain.new.self in
    let new = c.scan_on.new.self in
    let r = c.scan_on.result in
    let gives = c.in-None.ensures.none in
    let kept = kept_on old c.pass_gap.new.self on c.pass_gap.ensures.kept (kept_self c.pass_gap.new.self on gives) in
    let gap = subst (λ s. Between (text_in old) (Gap (options_in old)) (token_end old) (end_of s)) (sym gives.scanner) c.in-Ok.ensures.gap in
    ok_of (found_by new r) (finds_before old on kept gap new) c.scan_on.ensures.found

pub returns-in-None-clause-collects : goal.returns-in-None-clause-collects
returns-in-None-clause-collects g c =
    let old = c.args.self.now in
    let on = c.pass_plain.new.self in
    let new = c.scan_on.new.self in
    let r = c.scan_on.result in
    let gives = c.in-None.ensures.none in
    let kept = kept_on old c.pass_gap.new.self on c.pass_gap.ensures.kept (kept_self c.pass_gap.new.self on gives) in
    let gap = subst (λ s. Between (text_in old) (Gap (options_in old)) (token_end old) (end_of s)) (sym gives.scanner) c.in-Ok.ensures.gap in
    ok_collects r (collects_on old on new kept (collects_on old c.pass_gap.new.self on c.pass_gap.ensures.kept c.in-Ok.ensures.collects (collects_self c.pass_gap.new.self on gives))) c.scan_on.ensures.collects

pub returns-in-None-clause-refused : goal.returns-in-None-clause-refused
returns-in-None-clause-refused g c =
    let old = c.args.self.now in
    let on = c.pass_plain.new.self in
    let new = c.scan_on.new.self in
    let r = c.scan_on.result in
    let gives = c.in-None.ensures.none in
    let kept = kept_on old c.pass_gap.new.self on c.pass_gap.ensures.kept (kept_self c.pass_gap.new.self on gives) in
    let gap = subst (λ s. Between (text_in old) (Gap (options_in old)) (token_end old) (end_of s)) (sym gives.scanner) c.in-Ok.ensures.gap in
    err_on r (still (no_token_before old on kept gap)) c.scan_on.ensures.refused

pub returns-in_default-clause-fault : goal.returns-in_default-clause-fault
returns-in_default-clause-fault g c =
    starved c.args.self.now c.pass_gap.new.self _ c.pass_gap.ensures.kept c.stop_for_memory.ensures.fault (inr (failure _ c.in_default.not-Ok))

pub returns-in-None-clause-fault : goal.returns-in-None-clause-fault
returns-in-None-clause-fault g c =
    let old = c.args.self.now in
    let on = c.pass_plain.new.self in
    let new = c.scan_on.new.self in
    let r = c.scan_on.result in
    let gives = c.in-None.ensures.none in
    let kept = kept_on old c.pass_gap.new.self on c.pass_gap.ensures.kept (kept_self c.pass_gap.new.self on gives) in
    let gap = subst (λ s. Between (text_in old) (Gap (options_in old)) (token_end old) (end_of s)) (sym gives.scanner) c.in-Ok.ensures.gap in
    err_on r (λ h. fault_before old on new.fault kept (told_anyhow h)) c.scan_on.ensures.fault

pub returns-in-None-clause-error : goal.returns-in-None-clause-error
returns-in-None-clause-error g c =
    let old = c.args.self.now in
    let on = c.pass_plain.new.self in
    let new = c.scan_on.new.self in
    let r = c.scan_on.result in
    let gives = c.in-None.ensures.none in
    let kept = kept_on old c.pass_gap.new.self on c.pass_gap.ensures.kept (kept_self c.pass_gap.new.self on gives) in
    let gap = subst (λ s. Between (text_in old) (Gap (options_in old)) (token_end old) (end_of s)) (sym gives.scanner) c.in-Ok.ensures.gap in
    err_on r (told_before old on kept gap new.fault) c.scan_on.ensures.error

pub returns-in-None-clause-follows : goal.returns-in-None-clause-follows
returns-in-None-clause-follows g c =
    let old = c.args.self.now in
    let on = c.pass_plain.new.self in
    let new = c.scan_on.new.self in
    let r = c.scan_on.result in
    let gives = c.in-None.ensures.none in
    let kept = kept_on old c.pass_gap.new.self on c.pass_gap.ensures.kept (kept_self c.pass_gap.new.self on gives) in
    let gap = subst (λ s. Between (text_in old) (Gap (options_in old)) (token_end old) (end_of s)) (sym gives.scanner) c.in-Ok.ensures.gap in
    follows_on old new (g.R.Receiver.reached c.pass_gap.new.to) r c.in-Ok.ensures.reached (returns-in-None-clause-kept g c) (returns-in-None-clause-found g c) c.scan_on.ensures.lexeme

pub returns-in-None-clause-source : goal.returns-in-None-clause-source
returns-in-None-clause-source g c =
    on_ok c.scan_on.result c.in-Ok.ensures.source

pub returns-in-None-clause-passes : goal.returns-in-None-clause-passes
returns-in-None-clause-passes g c =
    on_ok c.scan_on.result c.in-Ok.ensures.passes

pub returns-in-None-clause-held : goal.returns-in-None-clause-held
returns-in-None-clause-held g c =
    on_ok c.scan_on.result c.in-Ok.ensures.held
