use Rattle.jsonc_text.specs.Places.{is_comment}
use Rattle.std.proofs.Common.{◌≡◌, false, inl, sym, ap, ◌∙◌, refl, subst, Some, is_some, option_map, IfSome}
use Rattle.jsonc_text.specs.Faults.{IsFault}
use Rattle.jsonc_scan.specs.Scanner.{text_of}
use Rattle.jsonc_walk.specs.Context.{text_in}
use Rattle.jsonc_scan.specs.Scanner.{scanned_seen, IsLentSeen}
use Rattle.jsonc_walk.proofs.lemmas.MovedTokens.{seen_same}
use Rattle.jsonc_walk.proofs.lemmas.Scans.{asks_before, decoding_asks, kept_step, noting_asks, on_left, passing_on, passing_start, scan_found}
use Rattle.jsonc_walk.proofs.lemmas.Collecting.{collects_end, collects_nothing, collects_on_lexeme}
use Rattle.jsonc_walk.proofs.lemmas.Refusals.{on_err, scan_refused, comment_refused}
use Rattle.jsonc_walk.specs.Faults.{StopsAnyhow}
use Rattle.jsonc_walk.specs.Refusals.{IsFaultHere, NoTokenAfter, OutOfMemoryOr}
use Rattle.jsonc_walk.proofs.lemmas.Stopping.{scan_stops, comment_stops}
use Rattle.jsonc_walk.proofs.context.Context.scan_on.Goals as goal

pub loop-found-init : goal.loop-found-init
loop-found-init g c = passing_start c.args.self.now

pub returns-in_default-clause-found : goal.returns-in_default-clause-found
returns-in_default-clause-found g c =
    scan_found c.args.self.now c.loop-found.self c.step.new.self c.step.new.self (option_map (scanned_seen c.step.new.self c.step.new.content) c.in-Ok.found) _ (ap (option_map (scanned_seen c.step.new.self c.step.new.content)) c.in_default.is) refl c.loop-found.invariant c.step.ensures.blanks c.in-Ok.ensures.found

pub returns-then-not-is_comment-clause-found : goal.returns-then-not-is_comment-clause-found
returns-then-not-is_comment-clause-found g c =
    let held = c.end_gap.ensures.content ∙ c.collect.ensures.content in
    scan_found c.args.self.now c.loop-found.self c.step.new.self c.end_gap.new.self.scanner (option_map (scanned_seen c.step.new.self c.step.new.content) c.in-Ok.found) _ (ap (option_map (scanned_seen c.step.new.self c.step.new.content)) c.in-Some.is ∙ ap Some (sym (seen_same c.step.new.self c.end_gap.new.self.scanner c.step.new.content c.end_gap.new.self.content c.in-Some.token (c.end_gap.ensures.scanner ∙ c.collect.ensures.scanner) held)))
    (c.end_gap.ensures.scanner ∙ c.collect.ensures.scanner) c.loop-found.invariant c.step.ensures.blanks c.in-Ok.ensures.found

pub loop-found-preserved : goal.loop-found-preserved
loop-found-preserved g c =
    passing_on c.args.self.now c.loop-found.self c.pass_comment.new.self c.step.new.self (option_map (scanned_seen c.step.new.self c.step.new.content) c.in-Ok.found) (scanned_seen c.step.new.self c.step.new.content c.in-Some.token) (ap (option_map (scanned_seen c.step.new.self c.step.new.content)) c.in-Some.is) c.in_ok-pass_comment.ensures.scanner c.in_ok-pass_comment.ensures.tokens c.in_ok-pass_comment.ensures.comments c.in_ok-pass_comment.ensures.apart c.in_ok-pass_comment.ensures.decodes
    c.loop-found.invariant c.step.ensures.blanks c.in-Ok.ensures.found (sym c.is_comment.ensures ∙ c.if-not-is_comment.false) c.in_ok-pass_comment.ensures.allowed c.in_ok-pass_comment.ensures.collected c.in_ok-pass_comment.ensures.omitted
    (c.in_ok-pass_comment.ensures.lent (subst (λ f. IfSome f (IsLentSeen c.step.new.self c.step.new.content)) c.in-Some.is c.in-Ok.ensures.lent))
    (c.in_ok-pass_comment.ensures.noted (sym c.is_comment.ensures ∙ c.if-not-is_comment.false))

pub returns-in-Err-clause-refused : goal.returns-in-Err-clause-refused
returns-in-Err-clause-refused g c =
    let read = c.in-Err.ensures in
    subst (OutOfMemoryOr (NoTokenAfter c.args.self.now)) (sym c.stop.ensures) (scan_refused c.args.self.now c.loop-found.self c.step.new.self c.in-Err.fault c.loop-found.invariant read.blanks read.nothing read.begins)

pub returns-in_err-pass_comment-clause-refused : goal.returns-in_err-pass_comment-clause-refused
returns-in_err-pass_comment-clause-refused g c =
    let e = c.pass_comment.new.self.fault in
    on_err c.from_residual.result
    (comment_refused c.args.self.now c.loop-found.self c.step.new.self (option_map (scanned_seen c.step.new.self c.step.new.content) c.in-Ok.found) (scanned_seen c.step.new.self c.step.new.content c.in-Some.token) e (ap (option_map (scanned_seen c.step.new.self c.step.new.content)) c.in-Some.is) c.loop-found.invariant c.step.ensures.blanks c.in-Ok.ensures.found
    (sym c.is_comment.ensures ∙ c.if-not-is_comment.false) c.in_err-pass_comment.ensures.refused)

pub returns-in_default-clause-collects : goal.returns-in_default-clause-collects
returns-in_default-clause-collects g c =
    let so_far = c.loop-found.invariant in
    collects_end c.args.self.now c.loop-found.self _ c.step.new.self (option_map (scanned_seen c.step.new.self c.step.new.content) c.in-Ok.found) so_far.kept so_far.collects c.step.ensures.blanks refl c.in-Ok.ensures.found (ap (option_map (scanned_seen c.step.new.self c.step.new.content)) c.in_default.is) refl (λ h. h) (λ ts h. h)

pub returns-then-not-is_comment-clause-collects : goal.returns-then-not-is_comment-clause-collects
returns-then-not-is_comment-clause-collects g c =
    let so_far = c.loop-found.invariant in
    collects_on_lexeme c.args.self.now c.loop-found.self c.collect.new.self c.end_gap.new.self c.step.new.self (option_map (scanned_seen c.step.new.self c.step.new.content) c.in-Ok.found) (scanned_seen c.step.new.self c.step.new.content c.in-Some.token) so_far.kept so_far.collects c.step.ensures.blanks c.collect.ensures.scanner c.in-Ok.ensures.found (ap (option_map (scanned_seen c.step.new.self c.step.new.content)) c.in-Some.is)
    (sym c.is_comment.ensures ∙ c.if-not-is_comment.true) c.in-Ok-collect.ensures.collected (c.in-Ok-collect.ensures.lent (subst (λ f. IfSome f (IsLentSeen c.step.new.self c.step.new.content)) c.in-Some.is c.in-Ok.ensures.lent))
    c.collect.ensures.apart c.end_gap.ensures.scanner c.end_gap.ensures.tokens c.in-Ok-end_gap.ensures.noted

pub returns-then-not-collects-clause-found : goal.returns-then-not-collects-clause-found
returns-then-not-collects-clause-found g c =
    scan_found c.args.self.now c.loop-found.self c.step.new.self c.step.new.self (option_map (scanned_seen c.step.new.self c.step.new.content) c.in-Ok.found) _ (ap (option_map (scanned_seen c.step.new.self c.step.new.content)) c.in-Some.is) refl c.loop-found.invariant c.step.ensures.blanks c.in-Ok.ensures.found

pub returns-then-not-collects-clause-collects : goal.returns-then-not-collects-clause-collects
returns-then-not-collects-clause-collects g c =
    let so_far = c.loop-found.invariant in
    collects_nothing c.args.self.now c.loop-found.self c.step.new.self (option_map (scanned_seen c.step.new.self c.step.new.content) c.in-Ok.found) (scanned_seen c.step.new.self c.step.new.content c.in-Some.token) _ so_far.kept so_far.collects c.step.ensures.blanks refl c.in-Ok.ensures.found (ap (option_map (scanned_seen c.step.new.self c.step.new.content)) c.in-Some.is)
    (sym c.is_comment.ensures ∙ c.if-not-is_comment.true) (c.collects.ensures.tokens c.if-not-collects.true) refl (c.collects.ensures.comments c.if-not-collects.true)

pub returns-in-Err-clause-error : goal.returns-in-Err-clause-error
returns-in-Err-clause-error g c =
    subst (StopsAnyhow c.args.self.now) (sym c.stop.ensures) (scan_stops c.args.self.now c.loop-found.self c.step.new.self c.in-Err.fault c.loop-found.invariant c.in-Err.ensures.blanks c.in-Err.ensures.error)

pub returns-in_err-pass_comment-clause-error : goal.returns-in_err-pass_comment-clause-error
returns-in_err-pass_comment-clause-error g c =
    let e = c.pass_comment.new.self.fault in
    on_err c.from_residual.result
    (comment_stops c.args.self.now c.loop-found.self c.step.new.self (option_map (scanned_seen c.step.new.self c.step.new.content) c.in-Ok.found) (scanned_seen c.step.new.self c.step.new.content c.in-Some.token) e (ap (option_map (scanned_seen c.step.new.self c.step.new.content)) c.in-Some.is) c.loop-found.invariant c.step.ensures.blanks c.in-Ok.ensures.found
    (sym c.is_comment.ensures ∙ c.if-not-is_comment.false) c.in_err-pass_comment.ensures.refused)

pub returns-in_default-clause-kept : goal.returns-in_default-clause-kept
returns-in_default-clause-kept g c = kept_step c.args.self.now c.loop-found.self _ c.step.new.self c.loop-found.invariant c.step.ensures.blanks refl refl refl refl refl

pub returns-then-not-collects-clause-kept : goal.returns-then-not-collects-clause-kept
returns-then-not-collects-clause-kept g c = kept_step c.args.self.now c.loop-found.self _ c.step.new.self c.loop-found.invariant c.step.ensures.blanks refl refl refl refl refl

pub returns-then-not-is_comment-clause-kept : goal.returns-then-not-is_comment-clause-kept
returns-then-not-is_comment-clause-kept g c =
    let taken = c.collect.ensures in
    let ended = c.end_gap.ensures in
    kept_step c.args.self.now c.loop-found.self c.end_gap.new.self c.step.new.self c.loop-found.invariant c.step.ensures.blanks (ended.scanner ∙ taken.scanner) (ap is_some ended.tokens ∙ taken.tokens) (ended.comments ∙ taken.comments) (ended.apart ∙ ap is_some taken.apart) (ended.decodes ∙ taken.decodes)

pub returns-in-Err-clause-fault : goal.returns-in-Err-clause-fault
returns-in-Err-clause-fault g c =
    let read = c.in-Err.ensures in
    let kept = c.loop-found.invariant.kept in
    subst (IsFaultHere c.args.self.now ⊥) (sym c.stop.ensures) (record {
      of_text = subst (λ b. IsFault b c.in-Err.fault) (read.blanks.text ∙ kept.text) read.fault;
      memory = λ m. inl (asks_before kept (decoding_asks c.loop-found.self (read.wanted m)));
    })

pub returns-in_default-collect-clause-fault : goal.returns-in_default-collect-clause-fault
returns-in_default-collect-clause-fault g c =
    let kept = c.loop-found.invariant.kept in
    let taken = c.collect.ensures in
    record {
      of_text = subst (λ b. IsFault b c.stop_for_memory.new.self.fault) (ap text_of taken.scanner ∙ c.step.ensures.blanks.text ∙ kept.text) c.stop_for_memory.ensures.fault;
      memory = λ m. inl (asks_before kept (decoding_asks c.loop-found.self c.in_default-collect.ensures.memory));
    }

pub returns-in_default-end_gap-clause-fault : goal.returns-in_default-end_gap-clause-fault
returns-in_default-end_gap-clause-fault g c =
    let kept = c.loop-found.invariant.kept in
    let taken = c.collect.ensures in
    record {
      of_text = subst (λ b. IsFault b c.stop_for_memory-in_default-end_gap.new.self.fault) (ap text_of (c.end_gap.ensures.scanner ∙ taken.scanner) ∙ c.step.ensures.blanks.text ∙ kept.text) c.stop_for_memory-in_default-end_gap.ensures.fault;
      memory = λ m. inl (asks_before kept (noting_asks c.loop-found.self (ap is_some (sym taken.apart) ∙ c.in_default-end_gap.ensures.memory)));
    }

pub returns-in_err-pass_comment-clause-fault : goal.returns-in_err-pass_comment-clause-fault
returns-in_err-pass_comment-clause-fault g c =
    let e = c.pass_comment.new.self.fault in
    let kept = c.loop-found.invariant.kept in
    let told = c.in_err-pass_comment.ensures.fault in
    on_err c.from_residual.result (record {
      of_text = subst (λ b. IsFault b e) (c.step.ensures.blanks.text ∙ kept.text) told.of_text;
      memory = λ m. on_left (asks_before kept) (told.memory m);
    })

pub returns-then-not-collects-clause-lent : goal.returns-then-not-collects-clause-lent
returns-then-not-collects-clause-lent g c = subst (λ f. IfSome f (IsLentSeen c.step.new.self c.step.new.content)) c.in-Some.is c.in-Ok.ensures.lent

pub returns-then-not-is_comment-clause-lent : goal.returns-then-not-is_comment-clause-lent
returns-then-not-is_comment-clause-lent g c =
    let held = c.end_gap.ensures.content ∙ c.collect.ensures.content in
    subst (λ x. IsLentSeen c.end_gap.new.self.scanner x c.in-Some.token) (sym held)
    (subst (λ s. IsLentSeen s c.step.new.content c.in-Some.token) (sym (c.end_gap.ensures.scanner ∙ c.collect.ensures.scanner)) (subst (λ f. IfSome f (IsLentSeen c.step.new.self c.step.new.content)) c.in-Some.is c.in-Ok.ensures.lent))

pub returns-then-not-collects-clause-lexeme : goal.returns-then-not-collects-clause-lexeme
returns-then-not-collects-clause-lexeme g c = sym c.is_comment.ensures ∙ c.if-not-is_comment.true

pub returns-then-not-is_comment-clause-lexeme : goal.returns-then-not-is_comment-clause-lexeme
returns-then-not-is_comment-clause-lexeme g c =
    let held = c.end_gap.ensures.content ∙ c.collect.ensures.content in
    subst (λ w. is_comment w ≡ false) (sym (seen_same c.step.new.self c.end_gap.new.self.scanner c.step.new.content c.end_gap.new.self.content c.in-Some.token (c.end_gap.ensures.scanner ∙ c.collect.ensures.scanner) held)) (sym c.is_comment.ensures ∙ c.if-not-is_comment.true)
