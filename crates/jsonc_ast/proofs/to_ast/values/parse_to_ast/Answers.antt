use Rattle.std.proofs.Common.{◌∙◌, ap, sym, subst, refl, inl, true, None, Some, Option, IfSome, IfErr, chars, option_map, is_some, ◌≤◌, List, ℕ}
use Rattle.jsonc_text.specs.Faults.{IsFault}
use Rattle.jsonc_text.specs.Grammar.{IsDocument}
use Rattle.jsonc_text.specs.Options.{Options}
use Rattle.jsonc_text.specs.OptionsOf.{parse_options}
use Rattle.jsonc_text.specs.Plain.{around}
use Rattle.jsonc_ast.specs.declared.ast.Value.{Value}
use Rattle.jsonc_walk.specs.Located.{IsLocatedDocument}
use Rattle.jsonc_ast.specs.Spelled.{spelled}
use Rattle.jsonc_ast.specs.Views.{located, plain}
use Rattle.jsonc_walk.specs.Refusals.{RefusesText}
use Rattle.jsonc_walk.specs.Faults.{ParseFault}
use Rattle.jsonc_walk.specs.Written.{AreWritten}
use Rattle.jsonc_walk.proofs.lemmas.Grammar.{located_document}
use Rattle.jsonc_walk.proofs.lemmas.Collecting.{all_collected, all_lent, all_noted}
use Rattle.jsonc_walk.proofs.lemmas.Ranges.{tokens_lie, comments_lie}
use Rattle.jsonc_walk.proofs.lemmas.Refusals.{err_of, err_some, ok_of}
use Rattle.jsonc_walk.proofs.lemmas.Scans.{moved}
use Rattle.jsonc_ast.proofs.to_ast.values.parse_to_ast.Goals as goal

plain_document : {A : Type 0} (o : Options) (bytes : List ℕ) (v : Option (Value A)) → IsLocatedDocument o bytes (option_map located v) → IsDocument o (chars bytes) (option_map plain v)
plain_document o bytes None h = located_document o bytes None h
plain_document o bytes (Some v) h = located_document o bytes (Some (located v)) h

pub returns-in_err-value-clause-refused : goal.returns-in_err-value-clause-refused
returns-in_err-value-clause-refused g c =
    let start = c.new-context.ensures in
    let e = c.in_err-value.field-0.0 in
    err_of (RefusesText (parse_options c.args.options.now) c.args.text.now) e c.from_residual.result c.from_residual.ensures.1 (moved (λ p b. RefusesText p b e) start.options start.text c.in_err-value.ensures.refused)

pub returns-in_err-value-clause-error : goal.returns-in_err-value-clause-error
returns-in_err-value-clause-error g c =
    let start = c.new-context.ensures in
    let e = c.in_err-value.field-0.0 in
    err_of (ParseFault (parse_options c.args.options.now) c.args.text.now true) e c.from_residual.result c.from_residual.ensures.1 (moved (λ p b. ParseFault p b true e) start.options start.text c.in_err-value.ensures.error)

pub returns-clause-accepted : goal.returns-clause-accepted
returns-clause-accepted g c =
    let start = c.new-context.ensures in
    let v = c.in_ok-value.value in
    let o = parse_options c.args.options.now in
    let bytes = c.args.text.now in
    let whole = plain_document o bytes v (moved (λ p b. IsLocatedDocument p b (option_map located v)) start.options start.text c.in_ok-value.ensures.located) in
    ok_of c.finish.result (λ r is. subst (λ f. IsDocument o (chars bytes) (option_map plain f)) (sym is) whole) c.finish.ensures.value

pub returns-clause-located : goal.returns-clause-located
returns-clause-located g c =
    let start = c.new-context.ensures in
    let v = c.in_ok-value.value in
    let o = parse_options c.args.options.now in
    let bytes = c.args.text.now in
    let whole = moved (λ p b. IsLocatedDocument p b (option_map located v)) start.options start.text c.in_ok-value.ensures.located in
    ok_of c.finish.result (λ r is. subst (λ f. IsLocatedDocument o bytes (option_map located f)) (sym is) whole) c.finish.ensures.value

pub returns-clause-written : goal.returns-clause-written
returns-clause-written g c =
    let start = c.new-context.ensures in
    let v = c.in_ok-value.value in
    let o = parse_options c.args.options.now in
    let bytes = c.args.text.now in
    let written = moved (λ p b. IfSome v (λ x. AreWritten p b (spelled x))) start.options start.text c.in_ok-value.ensures.written in
    ok_of c.finish.result (λ r is. subst (λ f. IfSome f (λ x. AreWritten o bytes (spelled x))) (sym is) written) c.finish.ensures.value

pub returns-clause-within : goal.returns-clause-within
returns-clause-within g c = ok_of c.finish.result (λ r is. subst (λ f. IfSome f (λ x. around (plain x) ≤ 512)) (sym is) c.in_ok-value.ensures.within) c.finish.ensures.value

pub returns-clause-refused : goal.returns-clause-refused
returns-clause-refused g c = err_some c.finish.result (λ e memory. inl memory) c.finish.ensures.memory

pub returns-clause-error : goal.returns-clause-error
returns-clause-error g c = err_some c.finish.result (λ e memory. inl memory) c.finish.ensures.memory

pub returns-clause-tokens : goal.returns-clause-tokens
returns-clause-tokens g c = ok_of c.finish.result (λ r is. ap is_some is ∙ c.in_ok-value.ensures.kept.tokens ∙ c.new-context.ensures.tokens) c.finish.ensures.tokens

pub returns-clause-apart : goal.returns-clause-apart
returns-clause-apart g c = ok_of c.finish.result (λ r is. is ∙ c.in_ok-value.ensures.kept.apart ∙ c.new-context.ensures.apart) c.finish.ensures.apart

pub returns-clause-fault : goal.returns-clause-fault
returns-clause-fault g c = subst (λ b. IfErr c.finish.result (IsFault b)) (c.in_ok-value.ensures.kept.text ∙ c.new-context.ensures.text) c.finish.ensures.fault

pub returns-clause-collected : goal.returns-clause-collected
returns-clause-collected g c =
    let start = c.new-context.ensures in
    let whole = c.in_ok-value.ensures in
    ok_of c.finish.result
    (λ r is. all_collected c.new-context.result c.parse_whole.new.context None _ _ start.text start.options start.start whole.kept whole.collects whole.end refl c.args.collect.now.comments start.comments start.collected r.tokens is)
    c.finish.ensures.tokens

pub returns-clause-lent : goal.returns-clause-lent
returns-clause-lent g c =
    let start = c.new-context.ensures in
    ok_of c.finish.result (λ r is. all_lent c.new-context.result c.parse_whole.new.context r.tokens _ start.text start.collected c.in_ok-value.ensures.collects is) c.finish.ensures.tokens

pub returns-clause-comments : goal.returns-clause-comments
returns-clause-comments g c =
    let start = c.new-context.ensures in
    let whole = c.in_ok-value.ensures in
    ok_of c.finish.result
    (λ r shown. all_noted c.new-context.result c.parse_whole.new.context None _ _ start.text start.options start.start whole.kept whole.collects whole.end refl r.comments start.noted shown)
    c.finish.ensures.shown

pub returns-clause-token_ranges : goal.returns-clause-token_ranges
returns-clause-token_ranges g c =
    let start = c.new-context.ensures in
    let whole = c.in_ok-value.ensures in
    ok_of c.finish.result
    (λ r is. tokens_lie _ c.utf8.text _ _ r.tokens (all_collected c.new-context.result c.parse_whole.new.context None _ _ start.text start.options start.start whole.kept whole.collects whole.end refl c.args.collect.now.comments start.comments start.collected r.tokens is))
    c.finish.ensures.tokens

pub returns-clause-comment_ranges : goal.returns-clause-comment_ranges
returns-clause-comment_ranges g c =
    let start = c.new-context.ensures in
    let whole = c.in_ok-value.ensures in
    ok_of c.finish.result
    (λ r shown. comments_lie _ c.utf8.text _ r.comments (all_noted c.new-context.result c.parse_whole.new.context None _ _ start.text start.options start.start whole.kept whole.collects whole.end refl r.comments start.noted shown))
    c.finish.ensures.shown
