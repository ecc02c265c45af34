use Rattle.std.proofs.Common.{arith}
use Rattle.std.proofs.lemmas.Str.{IsCharBoundary-start}
use Rattle.jsonc_scan.proofs.scanner.Scanner.with_options.Goals as goal

pub invariant_of-result : goal.invariant_of-result
invariant_of-result g c =
    let start = IsCharBoundary-start _ c.utf8.file_text in
    record { at_place = start; starts_at_place = start; order = omega arith }
