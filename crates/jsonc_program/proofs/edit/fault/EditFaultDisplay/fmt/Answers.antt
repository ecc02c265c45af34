use Rattle.std.proofs.Common.{refl}
use Rattle.std.proofs.Output.{has_written_styled_append}
use Rattle.jsonc_program.proofs.edit.fault.EditFaultDisplay.fmt.Goals as goal

pub returns-in_ok-write_str-in-Put-clause-styled : goal.returns-in_ok-write_str-in-Put-clause-styled
returns-in_ok-write_str-in-Put-clause-styled g c = λ flush ok.
    let front = c.in_ok-write_str-in-Put.ensures.styled flush refl in
    rw c.in-Put.is (has_written_styled_append _ _ _ _ _ _ front (c.fmt-in-Put.ensures.styled front.flush ok))
