use Rattle.std.proofs.Common.{chars, ◌≢◌}
use Rattle.jsonc_text.specs.Faults.{kind_of}
use Rattle.jsonc_text.specs.declared.errors.ParseErrorKind.TheVariants.{OutOfMemory}
use Rattle.jsonc_walk.proofs.lemmas.Refusals.{err_of}
use Rattle.jsonc_walk.proofs.lemmas.Scans.{moved}
use Rattle.jsonc_check.specs.Checker.{HasValueWithin}
use Rattle.jsonc_check.proofs.Checks.{neither, value_within}
use Rattle.jsonc_check.proofs.checker.check_by.Goals as goal

pub returns-clause-accepted : goal.returns-clause-accepted
returns-clause-accepted g c =
    let start = c.of_places-context.ensures in
    moved (λ o b. HasValueWithin g.D.Depth.whole o (chars b)) start.options start.text (value_within _ _ _ _ c.in_ok-read_document.field-0 c.in_ok-read_document.ensures.found)

pub returns-in_err-read_document-clause-memory : goal.returns-in_err-read_document-clause-memory
returns-in_err-read_document-clause-memory g c =
    let start = c.of_places-context.ensures in
    let e = c.in_err-read_document.field-0.0 in
    err_of (λ e. kind_of e ≢ OutOfMemory) e c.from_residual.result c.from_residual.ensures.1 (λ m. neither _ _ start.passes start.comments (c.in_err-read_document.ensures.memory m))
