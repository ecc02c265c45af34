use Rattle.std.proofs.Common.{chars}
use Rattle.jsonc_parser.proofs.line_index.marks_of.Goals as goal

pub mark_line-requires-clause-start : goal.mark_line-requires-clause-start
mark_line-requires-clause-start g c = c.of_line-start.ensures.mark (chars c.args.text.now) (λ w. c.requires.begins w c.loop-line.line c.loop-line-test.true)
