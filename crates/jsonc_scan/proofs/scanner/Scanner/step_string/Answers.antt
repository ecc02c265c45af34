use Rattle.std.proofs.Common.{◌≡◌, ◌≢◌, arith}
use Rattle.jsonc_text.specs.declared.errors.ParseErrorKind.TheVariants.{OutOfMemory}
use Rattle.jsonc_text.specs.Faults.{kind_of}
use Rattle.jsonc_scan.specs.Scanner.{HoldsEscape, IsTrueThere, NothingStands}
use Rattle.jsonc_scan.proofs.NumberFaults.{err_of}
use Rattle.jsonc_scan.proofs.scanner.Scanner.step_string.Goals as goal

pub returns-in_err-read-clause-nothing : goal.returns-in_err-read-clause-nothing
returns-in_err-read-clause-nothing g c =
    err_of (λ e. kind_of e ≢ OutOfMemory → NothingStands c.args.self.now) c.in_err-read.field-0.0 c.from_residual.result c.from_residual.ensures.1 c.in_err-read.ensures.none

pub returns-in_err-read-clause-error : goal.returns-in_err-read-clause-error
returns-in_err-read-clause-error g c =
    err_of (λ e. kind_of e ≢ OutOfMemory → IsTrueThere c.args.self.now e) c.in_err-read.field-0.0 c.from_residual.result c.from_residual.ensures.1 c.in_err-read.ensures.error

pub returns-in_err-read-clause-memory : goal.returns-in_err-read-clause-memory
returns-in_err-read-clause-memory g c =
    err_of (λ e. kind_of e ≡ OutOfMemory → HoldsEscape c.args.self.now) c.in_err-read.field-0.0 c.from_residual.result c.from_residual.ensures.1 c.in_err-read.ensures.memory

pub invariant_of-self : goal.invariant_of-self
invariant_of-self g c =
    let read = c.in_ok-read.ensures.found.stands in
    record { at_place = read.boundary; starts_at_place = c.args.self.now.starts_at_place; order = omega (arith, read.order) }
