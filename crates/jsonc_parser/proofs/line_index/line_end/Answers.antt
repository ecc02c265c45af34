use Rattle.std.proofs.Common.{◌+◌}
use Rattle.jsonc_parser.proofs.LineIndexing.{start_within}
use Rattle.jsonc_parser.proofs.line_index.line_end.Goals as goal

pub returns-then-line-starts : goal.returns-then-line-starts
returns-then-line-starts c = start_within c.args.text.now c.args.starts.now c.utf8.text c.requires.starts (c.args.line + 1) c.if-line-starts.true
