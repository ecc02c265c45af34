use Rattle.jsonc_sound.proofs.JoinedRows.{joined_lines, parted_lines}
use Rattle.jsonc_sound.proofs.changes.lines_come_apart.Goals as goal

pub returns : goal.returns
returns c = λ at_end first second. (parted_lines at_end first second, λ d. joined_lines at_end first second d.0 d.1)
