use Rattle.std.proofs.Common.{option_map, true}
use Rattle.jsonc_walk.specs.Faults.{ParseFault}
use Rattle.jsonc_walk.specs.Refusals.{RefusesText}
use Rattle.jsonc_walk.proofs.lemmas.Refusals.{err_some, ok_of}
use Rattle.jsonc_walk.proofs.lemmas.Scans.{moved}
use Rattle.jsonc_layout.specs.input.Views.{plain}
use Rattle.jsonc_input.specs.Reads.{IsValueOfText}
use Rattle.jsonc_input.proofs.Values.{document_read}
use Rattle.jsonc_input.proofs.parse.parse_to_input.Goals as goal

pub returns-clause-value : goal.returns-clause-value
returns-clause-value g c =
    let start = c.new-context.ensures in
    ok_of c.read_document.result (λ f made. moved (λ o b. IsValueOfText o b (option_map plain f)) start.options start.text (document_read _ _ f (λ v x h. h.3) made)) c.read_document.ensures.found

pub returns-clause-refused : goal.returns-clause-refused
returns-clause-refused g c =
    let start = c.new-context.ensures in
    err_some c.read_document.result (λ e h. moved (λ o b. RefusesText o b e) start.options start.text h) c.read_document.ensures.refused

pub returns-clause-error : goal.returns-clause-error
returns-clause-error g c =
    let start = c.new-context.ensures in
    err_some c.read_document.result (λ e h. moved (λ o b. ParseFault o b true e) start.options start.text h) c.read_document.ensures.error
