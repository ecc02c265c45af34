use Rattle.std.proofs.Common.{◌-◌, All, chars, length}
use Rattle.jsonc_parser.specs.LineStarts.{IsMark}
use Rattle.jsonc_parser.proofs.line_index.mark_line.Given as goal

abbrev pub invariant-loop-here : goal.invariant-loop-here
invariant-loop-here g l = record { here : IsMark (chars l.text) l.here; marks : All (IsMark (chars l.text)) l.marks.items }

abbrev pub decreases-loop-here : goal.decreases-loop-here
decreases-loop-here g l = length l.text - l.here.place
