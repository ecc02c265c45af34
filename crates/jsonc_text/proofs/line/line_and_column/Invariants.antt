use Rattle.std.proofs.Common.{◌-◌, length}
use Rattle.jsonc_text.specs.Text.{rest}
use Rattle.jsonc_text.proofs.Lines.{Walks}
use Rattle.jsonc_text.proofs.line.line_and_column.Given as goal

abbrev pub invariant-loop-c : goal.invariant-loop-c
invariant-loop-c l = Walks l.before (rest l.text l.place) l.at l.line l.column

abbrev pub decreases-loop-c : goal.decreases-loop-c
decreases-loop-c l = length l.before - l.at
