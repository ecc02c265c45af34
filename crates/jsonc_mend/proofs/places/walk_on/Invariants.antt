use Rattle.std.proofs.Common.{[], ◌-◌, length}
use Rattle.jsonc_text.proofs.Lines.{Walks}
use Rattle.jsonc_mend.proofs.places.walk_on.Given as goal

abbrev pub invariant-loop-c : goal.invariant-loop-c
invariant-loop-c l = Walks l.text [] l.place l.line l.column

abbrev pub decreases-loop-c : goal.decreases-loop-c
decreases-loop-c l = length l.text - l.place
