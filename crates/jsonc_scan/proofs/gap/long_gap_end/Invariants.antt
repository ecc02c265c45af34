use Rattle.std.proofs.Common.{◌≡◌, ◌-◌, length}
use Rattle.jsonc_text.specs.Gaps.{is_blank}
use Rattle.jsonc_text.proofs.CharRuns.{Passes}
use Rattle.jsonc_scan.proofs.gap.long_gap_end.Given as goal

abbrev pub invariant-loop-place : goal.invariant-loop-place
invariant-loop-place l = (l.bytes ≡ l.text) × Passes is_blank l.text l.start l.place

abbrev pub decreases-loop-place : goal.decreases-loop-place
decreases-loop-place l = length l.bytes - l.place
