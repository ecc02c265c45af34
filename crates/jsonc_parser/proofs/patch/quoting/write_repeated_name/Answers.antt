use Rattle.std.proofs.Common.{refl}
use Rattle.std.proofs.Output.{has_written_styled_append}
use Rattle.jsonc_text.proofs.Writing.{plain_of_styled}
use Rattle.jsonc_parser.proofs.patch.quoting.write_repeated_name.Goals as goal

pub returns-clause-styled : goal.returns-clause-styled
returns-clause-styled g c = λ flush ok.
    let front = c.in_ok-write_str.ensures.styled flush refl in
    has_written_styled_append _ _ _ _ _ _ front (c.write_quoted.ensures front.flush ok)

pub returns-clause-writes : goal.returns-clause-writes
returns-clause-writes g c = plain_of_styled _ _ _ _ _ (returns-clause-styled g c)
