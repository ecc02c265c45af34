use Rattle.std.proofs.Common.{refl}
use Rattle.std.proofs.Output.{has_written_styled_append}
use Rattle.jsonc_lint.proofs.finding.write_first.Goals as goal

pub returns-clause-styled : goal.returns-clause-styled
returns-clause-styled g c = λ flush ok.
    let on_line = c.in_ok-write_str.ensures.styled flush refl in
    let line = c.in_ok-write_number.ensures.styled on_line.flush refl in
    let at_column = c.in_ok-write_str-2.ensures.styled line.flush refl in
    has_written_styled_append _ _ _ _ _ _ on_line (has_written_styled_append _ _ _ _ _ _ line (has_written_styled_append _ _ _ _ _ _ at_column (c.write_number-2.ensures.styled at_column.flush ok)))
