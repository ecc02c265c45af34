use Rattle.std.proofs.Common.{refl}
use Rattle.std.proofs.Output.{has_written_styled_append}
use Rattle.jsonc_engine.proofs.fault.write_too_large.Goals as goal

pub returns-clause-styled : goal.returns-clause-styled
returns-clause-styled g c = λ flush ok.
    let front = c.in_ok-write_str.ensures.styled flush refl in
    let number = c.in_ok-write_number.ensures.styled front.flush refl in
    let middle = c.in_ok-write_str-2.ensures.styled number.flush refl in
    has_written_styled_append _ _ _ _ _ _ front (has_written_styled_append _ _ _ _ _ _ number (has_written_styled_append _ _ _ _ _ _ middle (c.write_number-2.ensures.styled middle.flush ok)))
