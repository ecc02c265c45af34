use Rattle.std.proofs.Common.{◌∙◌, [], ap, inr, refl, subst, sym, arith}
use Rattle.jsonc_walk.specs.Handed.{at_place}
use Rattle.jsonc_walk.specs.Located.{value_at}
use Rattle.jsonc_walk.specs.Context.{last, found_in}
use Rattle.jsonc_walk.specs.Reached.{document}
use Rattle.jsonc_walk.proofs.lemmas.MovedTokens.{none_found}
use Rattle.jsonc_walk.proofs.lemmas.Leaves.{empty_document, value_document}
use Rattle.jsonc_walk.proofs.lemmas.NoValues.{value_read, document_no_token, document_no_value, document_no_end, document_goes_on, document_from_start}
use Rattle.jsonc_walk.proofs.lemmas.Refusals.{on_err, still}
use Rattle.jsonc_walk.proofs.lemmas.Following.{follows_in, source_on}
use Rattle.jsonc_walk.proofs.lemmas.Scans.{fault_before, kept_on, told_anyhow}
use Rattle.jsonc_walk.proofs.lemmas.OpenContainers.{root_stops, end_stops, second_stops, text_stops}
use Rattle.jsonc_walk.proofs.lemmas.Stopping.{stops_here}
use Rattle.jsonc_walk.proofs.lemmas.Walks.{root_counts, root_fits}
use Rattle.jsonc_walk.proofs.lemmas.Collecting.{collects_turn}
use Rattle.jsonc_scan.specs.Scanner.{IsThere}
use Rattle.jsonc_walk.proofs.walk.read_text.Goals as goal

pub returns-in_default-clause-found : goal.returns-in_default-clause-found
returns-in_default-clause-found g c = empty_document c.args.context.now c.scan.new.self (found_in c.scan.new.self c.in_ok-token.field-0) c.requires.start c.in_ok-token.ensures.kept c.in_ok-token.ensures.found (ap (found_in c.scan.new.self) c.in_default.is)

pub returns-clause-found : goal.returns-clause-found
returns-clause-found g c =
    let old = c.args.context.now in
    let now = c.scan.new.self in
    let mid = c.parse_value.new.context in
    let end = c.scan-2.new.self in
    let read = c.in_ok-value.ensures.read.found in (
      read.value,
      value_document old now mid end (found_in now c.in_ok-token.field-0) (found_in end c.in_ok-scan.field-0) read.value c.requires.start
          c.in_ok-token.ensures.kept c.in_ok-token.ensures.found c.in_ok-value.ensures.read.kept read.reads c.in_ok-scan.ensures.kept c.in_ok-scan.ensures.found (ap (found_in end) c.in-None.is),
      omega (arith, read.within),
      (c.scan.new.to, c.parse_value.new.to, c.in_ok-token.ensures.passes, read.made, c.in_ok-scan.ensures.passes),
    )

pub returns-clause-kept : goal.returns-clause-kept
returns-clause-kept g c =
    let mid = c.parse_value.new.context in
    kept_on c.args.context.now c.scan.new.self c.scan-2.new.self c.in_ok-token.ensures.kept (kept_on c.scan.new.self mid c.scan-2.new.self c.in_ok-value.ensures.read.kept c.in_ok-scan.ensures.kept)

pub returns-in_err-token-clause-refused : goal.returns-in_err-token-clause-refused
returns-in_err-token-clause-refused g c =
    let old = c.args.context.now in
    let e = c.scan.new.self.fault in
    on_err c.from_residual.result
    (still (λ n. document_from_start g.R.Receiver.whole old _ _ c.requires.start refl refl (document_no_token g.R.Receiver.whole old n)) c.in_err-token.ensures.refused)

pub returns-in_err-value-clause-refused : goal.returns-in_err-value-clause-refused
returns-in_err-value-clause-refused g c =
    let old = c.args.context.now in
    let now = c.scan.new.self in
    let read = c.in_ok-token.ensures in
    let e = c.parse_value.new.context.fault in
    on_err c.from_residual-in_err-value.result
    (still (λ n. document_from_start g.R.Receiver.whole old _ _ c.requires.start refl refl (document_no_value g.R.Receiver.whole old now (found_in c.scan.new.self c.in_ok-token.field-0) c.in_ok-token.ensures.kept read.found read.lexeme (last c.scan.new.self c.in-Some.token) (ap (found_in c.scan.new.self) c.in-Some.is) n)) c.in_err-value.ensures.refused.refused)

pub returns-in_err-scan-clause-refused : goal.returns-in_err-scan-clause-refused
returns-in_err-scan-clause-refused g c =
    let old = c.args.context.now in
    let now = c.scan.new.self in
    let read = c.in_ok-token.ensures in
    let value = c.in_ok-value.ensures.read in
    let e = c.scan-2.new.self.fault in
    on_err c.from_residual-in_err-scan.result
    (still
    (λ n. document_from_start g.R.Receiver.whole old _ _ c.requires.start refl refl (document_no_end g.R.Receiver.whole old now (found_in c.scan.new.self c.in_ok-token.field-0) c.in_ok-token.ensures.kept read.found read.lexeme (last c.scan.new.self c.in-Some.token) (ap (found_in c.scan.new.self) c.in-Some.is) c.parse_value.new.context value.found.value value.kept value.found.reads n)) c.in_err-scan.ensures.refused)

pub returns-in_default-2-clause-refused : goal.returns-in_default-2-clause-refused
returns-in_default-2-clause-refused g c =
    let old = c.args.context.now in
    let read = c.in_ok-token.ensures in
    let value = c.in_ok-value.ensures.read in
    let over = c.in_ok-scan.ensures in
    inr (document_from_start g.R.Receiver.whole old _ _ c.requires.start refl refl
    (document_goes_on g.R.Receiver.whole old c.scan.new.self (found_in c.scan.new.self c.in_ok-token.field-0) c.in_ok-token.ensures.kept read.found read.lexeme (last c.scan.new.self c.in-Some.token) (ap (found_in c.scan.new.self) c.in-Some.is) c.parse_value.new.context value.found.value value.kept value.found.reads
    c.scan-2.new.self (found_in c.scan-2.new.self c.in_ok-scan.field-0) c.in_ok-scan.ensures.kept over.found over.lexeme (λ e. c.in_default-2.not-None (none_found (last c.scan-2.new.self) c.in_ok-scan.field-0 e))))

pub returns-in_err-token-clause-error : goal.returns-in_err-token-clause-error
returns-in_err-token-clause-error g c =
    let old = c.args.context.now in
    let e = c.scan.new.self.fault in
    on_err c.from_residual.result
    (text_stops g.R.Receiver.whole old _ _ e refl refl c.requires.start (stops_here old g.R.Receiver.whole [] document e c.in_err-token.ensures.error))

pub returns-in_err-value-clause-error : goal.returns-in_err-value-clause-error
returns-in_err-value-clause-error g c =
    let old = c.args.context.now in
    let read = c.in_ok-token.ensures in
    let e = c.parse_value.new.context.fault in
    on_err c.from_residual-in_err-value.result
    (text_stops g.R.Receiver.whole old _ _ e refl refl c.requires.start
    (root_stops g.R.Receiver.whole old c.scan.new.self (found_in c.scan.new.self c.in_ok-token.field-0) c.in_ok-token.ensures.kept read.found read.lexeme (last c.scan.new.self c.in-Some.token) (ap (found_in c.scan.new.self) c.in-Some.is) e (root_counts g.R.Receiver.whole) c.in_err-value.ensures.refused.error))

pub returns-in_err-scan-clause-error : goal.returns-in_err-scan-clause-error
returns-in_err-scan-clause-error g c =
    let old = c.args.context.now in
    let read = c.in_ok-token.ensures in
    let value = c.in_ok-value.ensures.read in
    let e = c.scan-2.new.self.fault in
    let x = value.found.value in
    let mid = c.parse_value.new.context in
    on_err c.from_residual-in_err-scan.result
    (text_stops g.R.Receiver.whole old _ _ e refl refl c.requires.start
    (end_stops g.R.Receiver.whole old c.scan.new.self (found_in c.scan.new.self c.in_ok-token.field-0) c.in_ok-token.ensures.kept read.found read.lexeme (last c.scan.new.self c.in-Some.token) (ap (found_in c.scan.new.self) c.in-Some.is) mid (value_at x) value.kept (value_read c.scan.new.self mid x value.found.reads) (root_fits g.R.Receiver.whole _ value.found.within) e c.in_err-scan.ensures.error))

pub returns-in_default-2-clause-error : goal.returns-in_default-2-clause-error
returns-in_default-2-clause-error g c =
    let old = c.args.context.now in
    let read = c.in_ok-token.ensures in
    let value = c.in_ok-value.ensures.read in
    let over = c.in_ok-scan.ensures in
    let x = value.found.value in
    let mid = c.parse_value.new.context in
    text_stops g.R.Receiver.whole old _ _ c.stop_behind_value.new.self.fault refl refl c.requires.start
    (second_stops g.R.Receiver.whole old c.scan.new.self (found_in c.scan.new.self c.in_ok-token.field-0) c.in_ok-token.ensures.kept read.found read.lexeme (last c.scan.new.self c.in-Some.token) (ap (found_in c.scan.new.self) c.in-Some.is) mid (value_at x) value.kept (value_read c.scan.new.self mid x value.found.reads) (root_fits g.R.Receiver.whole _ value.found.within)
    c.scan-2.new.self (found_in c.scan-2.new.self c.in_ok-scan.field-0) c.in_ok-scan.ensures.kept over.found over.lexeme (λ e. c.in_default-2.not-None (none_found (last c.scan-2.new.self) c.in_ok-scan.field-0 e)) c.stop_behind_value.new.self.fault c.stop_behind_value.ensures.kind c.stop_behind_value.ensures.range)

pub returns-in_err-token-clause-fault : goal.returns-in_err-token-clause-fault
returns-in_err-token-clause-fault g c = on_err c.from_residual.result c.in_err-token.ensures.fault

pub returns-in_err-value-clause-fault : goal.returns-in_err-value-clause-fault
returns-in_err-value-clause-fault g c =
    let e = c.parse_value.new.context.fault in
    on_err c.from_residual-in_err-value.result (fault_before c.args.context.now c.scan.new.self e c.in_ok-token.ensures.kept c.in_err-value.ensures.refused.fault)

pub returns-in_err-scan-clause-fault : goal.returns-in_err-scan-clause-fault
returns-in_err-scan-clause-fault g c =
    let e = c.scan-2.new.self.fault in
    on_err c.from_residual-in_err-scan.result
    (fault_before c.args.context.now c.parse_value.new.context e (kept_on c.args.context.now c.scan.new.self c.parse_value.new.context c.in_ok-token.ensures.kept c.in_ok-value.ensures.read.kept) c.in_err-scan.ensures.fault)

pub returns-in_default-2-clause-fault : goal.returns-in_default-2-clause-fault
returns-in_default-2-clause-fault g c =
    let e = c.stop_behind_value.new.self.fault in
    let old = c.args.context.now in
    let now = c.scan.new.self in
    let mid = c.parse_value.new.context in
    let end = c.scan-2.new.self in
    fault_before old end e (kept_on old now end c.in_ok-token.ensures.kept (kept_on now mid end c.in_ok-value.ensures.read.kept c.in_ok-scan.ensures.kept)) (told_anyhow c.stop_behind_value.ensures.fault)

pub returns-in_default-clause-end : goal.returns-in_default-clause-end
returns-in_default-clause-end g c = subst (IsThere c.scan.new.self.scanner) (ap (found_in c.scan.new.self) c.in_default.is) c.in_ok-token.ensures.found.1

pub returns-clause-end : goal.returns-clause-end
returns-clause-end g c = subst (IsThere c.scan-2.new.self.scanner) (ap (found_in c.scan-2.new.self) c.in-None.is) c.in_ok-scan.ensures.found.1

pub returns-clause-collects : goal.returns-clause-collects
returns-clause-collects g c =
    let read = c.in_ok-token.ensures in
    let value = c.in_ok-value.ensures.read in
    collects_turn c.args.context.now c.scan.new.self c.parse_value.new.context c.scan-2.new.self read.kept read.collects value.kept value.collects c.in_ok-scan.ensures.collects

pub scan-requires-clause-behind : goal.scan-requires-clause-behind
scan-requires-clause-behind g c = at_place (subst (g.R.Receiver.reached c.args.to.now) (sym c.requires.start) c.requires.reached)

pub parse_value-requires-clause-source : goal.parse_value-requires-clause-source
parse_value-requires-clause-source g c = source_on c.args.context.now c.scan.new.self _ c.in_ok-token.ensures.kept (c.in_ok-token.ensures.source ∙ c.requires.source)

pub parse_value-requires-clause-follows : goal.parse_value-requires-clause-follows
parse_value-requires-clause-follows g c = follows_in (c.in_ok-token.ensures.source ∙ c.requires.source) refl c.in_ok-token.ensures.follows

pub scan-requires-2-clause-source : goal.scan-requires-2-clause-source
scan-requires-2-clause-source g c =
    let old = c.args.context.now in
    let now = c.scan.new.self in
    let mid = c.parse_value.new.context in
    source_on old mid _ (kept_on old now mid c.in_ok-token.ensures.kept c.in_ok-value.ensures.read.kept) (c.in_ok-value.ensures.read.source ∙ c.in_ok-token.ensures.source ∙ c.requires.source)

pub scan-requires-2-clause-behind : goal.scan-requires-2-clause-behind
scan-requires-2-clause-behind g c = at_place c.in_ok-value.ensures.read.reached

-- at the end of the text a token is where it begins
pub returns-in_default-clause-reached : goal.returns-in_default-clause-reached
returns-in_default-clause-reached g c =
    let end = subst (IsThere c.scan.new.self.scanner) (ap (found_in c.scan.new.self) c.in_default.is) c.in_ok-token.ensures.found.1 in
    subst (g.R.Receiver.reached c.scan.new.to) (end.0 ∙ sym end.1) c.in_ok-token.ensures.follows.reached

pub returns-clause-reached : goal.returns-clause-reached
returns-clause-reached g c =
    let end = subst (IsThere c.scan-2.new.self.scanner) (ap (found_in c.scan-2.new.self) c.in-None.is) c.in_ok-scan.ensures.found.1 in
    subst (g.R.Receiver.reached c.scan-2.new.to) (end.0 ∙ sym end.1) c.in_ok-scan.ensures.follows.reached
