use Rattle.std.proofs.Common.{◌∙◌, ap, chars, false, sym}
use Rattle.jsonc_text.specs.OptionsOf.{parse_options}
use Rattle.jsonc_walk.specs.Faults.{ParseFault}
use Rattle.jsonc_walk.proofs.lemmas.Refusals.{err_some, ok_of}
use Rattle.jsonc_walk.proofs.lemmas.Scans.{moved}
use Rattle.jsonc_value.specs.to_value.Lent.{IsLentBy}
use Rattle.jsonc_value.specs.to_value.Reads.{IsValueOf}
use Rattle.jsonc_value.specs.to_value.Refusals.{RefusesText}
use Rattle.jsonc_value.proofs.lemmas.to_value.Documents.{document_made}
use Rattle.jsonc_value.proofs.lemmas.to_value.Lending.{document_lent}
use Rattle.jsonc_value.proofs.to_value.values.parse_to_value.Goals as goal

pub returns-clause-accepted : goal.returns-clause-accepted
returns-clause-accepted g c =
    let start = c.new-context.ensures in
    ok_of c.read_document.result (λ f made. moved (λ o b. IsValueOf o (chars b) f) start.options start.text (document_made _ _ f (λ v x h. h.3.collapsed) made)) c.read_document.ensures.found

pub returns-clause-lent : goal.returns-clause-lent
returns-clause-lent g c =
    let start = c.new-context.ensures in
    let same = ap (λ o. record { bytes = c.args.text.now; options = o }) (ap parse_options c.copied.ensures)
    ∙ (λ j. record { bytes = sym start.text j; options = sym start.options j }) in
    ok_of c.read_document.result (λ f made. moved (λ o b. IsLentBy o b f) start.options start.text (document_lent _ _ _ f same made)) c.read_document.ensures.found

pub returns-clause-refused : goal.returns-clause-refused
returns-clause-refused g c =
    let start = c.new-context.ensures in
    err_some c.read_document.result (λ e h. moved (λ o b. RefusesText o b e) start.options start.text h) c.read_document.ensures.refused

pub returns-clause-error : goal.returns-clause-error
returns-clause-error g c =
    let start = c.new-context.ensures in
    err_some c.read_document.result (λ e h. moved (λ o b. ParseFault o b false e) start.options start.text h) c.read_document.ensures.error
