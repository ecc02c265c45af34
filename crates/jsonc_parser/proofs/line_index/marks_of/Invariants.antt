use Rattle.std.proofs.Common.{All, chars}
use Rattle.jsonc_parser.specs.LineStarts.{IsMark}
use Rattle.jsonc_parser.proofs.line_index.marks_of.Given as goal

abbrev pub invariant-loop-line : goal.invariant-loop-line
invariant-loop-line g l = All (IsMark (chars l.text)) l.marks.items
