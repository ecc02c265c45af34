use Rattle.std.proofs.Common.{◌≢◌, arith}
use Rattle.jsonc_text.specs.declared.errors.ParseErrorKind.TheVariants.{OutOfMemory}
use Rattle.jsonc_text.specs.Faults.{kind_of}
use Rattle.jsonc_scan.specs.Scanner.{IsTrueThere}
use Rattle.jsonc_scan.proofs.NumberFaults.{err_of}
use Rattle.jsonc_scan.proofs.scanner.Scanner.step_other.Goals as goal

pub returns-in_err-read-clause-error : goal.returns-in_err-read-clause-error
returns-in_err-read-clause-error g c =
    err_of (λ e. kind_of e ≢ OutOfMemory → IsTrueThere c.args.self.now e) c.in_err-read.field-0.0 c.from_residual.result c.from_residual.ensures.1 (λ kind. c.in_err-read.ensures.error c.requires.begins.inside c.requires.begins.no_blank)

pub invariant_of-self : goal.invariant_of-self
invariant_of-self g c =
    let read = c.in_ok-read.ensures.found in
    record { at_place = read.boundary; starts_at_place = c.args.self.now.starts_at_place; order = omega (arith, read.order) }
