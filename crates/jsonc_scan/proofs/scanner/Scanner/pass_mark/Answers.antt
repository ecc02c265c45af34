use Rattle.std.proofs.Common.{arith, refl}
use Rattle.jsonc_text.specs.Text.{stop}
use Rattle.jsonc_scan.proofs.scanner.Scanner.pass_mark.Goals as goal

pub returns-clause-blanks : goal.returns-clause-blanks
returns-clause-blanks g c = record { text = refl; options = refl; blanks = stop; order = (omega arith, omega arith) }
