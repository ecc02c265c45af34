use Rattle.std.proofs.Common.{Some, ap, chars, subst, sym, ◌∙◌, ◌≡◌}
use Rattle.std.proofs.lemmas.Str.{chars-nil}
use Rattle.jsonc_scan.specs.Scanner.{IsThere, scanned_seen, seen, text_of as scanned_text}
use Rattle.jsonc_engine.specs.Causes.{Stops}
use Rattle.jsonc_engine.specs.Texts.{text_of}
use Rattle.jsonc_engine.specs.Tokens.{IsTokenOf}
use Rattle.jsonc_engine.proofs.ToldTokens.{if_err, if_ok, told}
use Rattle.jsonc_engine.proofs.WrittenTokens.{begun, is_ready, smaller, so_far_next, stands, written_whole}
use Rattle.jsonc_engine.proofs.json.write_tokens.Goals as goal

pub tokens-init : goal.tokens-init
tokens-init g c =
    let e = c.with_options-scanner.ensures in
    begun c.args.text.now c.with_options-scanner.result (text_of c.new-written.result) e.text (e.options ∙ c.default.ensures) e.start.1 c.utf8.text (ap chars c.new-written.ensures.bytes ∙ chars-nil)

pub write_token-requires : goal.write_token-requires
write_token-requires g c =
    let n = c.in_ok-found.ensures in
    let new = c.next_token.new.scanner in
    let x = c.next_token.new.content in
    let k = c.in-Some.kind in
    let h = is_ready c.args.text.now c.tokens.scanner new c.tokens.place (text_of c.tokens.written) c.tokens.invariant n.blanks in
    let there = subst (λ f. IsThere new (seen new x f)) c.in-Some.is n.found in
    let same : c.args.text.now ≡ scanned_text new = sym (n.blanks.text ∙ c.tokens.invariant.text_is) in
    record {
      token = scanned_seen new x k;
      kind = subst (λ v. IsTokenOf (chars v) k (scanned_seen new x k)) (sym c.as_str.ensures.value) (told new x k (λ e. n.plain (c.in-Some.is ∙ ap Some e)) (λ e. n.passed (c.in-Some.is ∙ ap Some e)));
      stands = stands new c.args.text.now c.tokens.place c.token_start-start.result c.token_end-end.result (scanned_seen new x k) (text_of c.tokens.written) same c.token_start-start.ensures c.token_end-end.ensures h.options h.boundary h.order h.blanks there
          h.so_far;
    }

pub tokens-preserved : goal.tokens-preserved
tokens-preserved g c =
    so_far_next c.args.text.now c.tokens.scanner c.next_token.new.scanner c.tokens.place c.token_end-end.result (text_of c.tokens.written) (text_of c.write_token.new.written) c.tokens.invariant c.in_ok-found.ensures.blanks c.token_end-end.ensures
    c.in_ok-write_token.ensures.written

pub tokens-smaller : goal.tokens-smaller
tokens-smaller g c =
    let n = c.in_ok-found.ensures in
    let new = c.next_token.new.scanner in
    let there = subst (λ f. IsThere new (seen new c.next_token.new.content f)) c.in-Some.is n.found in
    smaller c.args.text.now c.tokens.scanner new c.tokens.place c.token_end-end.result (text_of c.tokens.written) c.tokens.invariant n.blanks there.0 c.token_end-end.ensures

pub returns-in_default-clause-written : goal.returns-in_default-clause-written
returns-in_default-clause-written g c =
    let new = c.next_token.new.scanner in
    let n = c.in_ok-found.ensures in
    let none = subst (λ f. IsThere new (seen new c.next_token.new.content f)) c.in_default.is n.found in
    if_ok c.end_with.result (λ s e. written_whole c.args.text.now c.utf8.text c.tokens.scanner new c.tokens.place c.token_start-start.result (text_of c.tokens.written) (text_of s) c.range.result.now c.tokens.invariant n.blanks none c.token_start-start.ensures
    c.range.ensures.value e) c.end_with.ensures.written

pub returns-in_default-clause-stops : goal.returns-in_default-clause-stops
returns-in_default-clause-stops g c = if_err c.end_with.result (λ e p. subst (Stops c.args.text.now) (sym p) tt) c.end_with.ensures.memory
