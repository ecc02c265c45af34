use Rattle.std.proofs.Common.{◌≡◌, true, false, subst}
use Rattle.jsonc_scan.specs.Scanner.{options_of, left}
use Rattle.jsonc_format.specs.Pieces.{HasNoPieces}
use Rattle.jsonc_format.proofs.Reading.{stopped_here}
use Rattle.jsonc_format.proofs.scan.next_piece.Goals as goal

pub returns-in-Err-clause-none : goal.returns-in-Err-clause-none
returns-in-Err-clause-none g c = λ u.
    subst (λ s. HasNoPieces (options_of s) (left s)) c.in_default.ensures.none
    (stopped_here c.step_plain.new.self c.step.new.self u c.step.ensures.blanks (c.in-Err.ensures.nothing (λ k. let z : false ≡ true = c.in-Err.ensures.wanted k in cc)) c.in-Err.ensures.begins)
