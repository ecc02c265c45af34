use Rattle.std.proofs.Common.{length, ◌-◌}
use denote.Text.{Utf8}
use denote.Shadow.{shadow}
use Rattle.jsonc_format.proofs.LineEnds.{LastUpTo}
use Rattle.jsonc_format.proofs.gaps.last_line.Given as goal

abbrev pub invariant-loop-next : goal.invariant-loop-next
invariant-loop-next l = shadow (Utf8 l.line) × LastUpTo l.gap l.line l.next

abbrev pub decreases-loop-next : goal.decreases-loop-next
decreases-loop-next l = length l.gap - l.next
