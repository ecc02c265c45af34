use Rattle.std.proofs.Common.{◌-◌, ◌≤◌, length}
use Rattle.jsonc_text.proofs.string.decode.closing_place.Given as goal

abbrev pub invariant-loop-place : goal.invariant-loop-place
invariant-loop-place l = (l.first_stop ≤ l.place) × (l.place ≤ length l.bytes)

abbrev pub decreases-loop-place : goal.decreases-loop-place
decreases-loop-place l = length l.bytes - l.place
