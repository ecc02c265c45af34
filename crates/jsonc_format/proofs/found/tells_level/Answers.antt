use Rattle.jsonc_format.proofs.Texts.{told_by_length}
use Rattle.jsonc_format.proofs.found.tells_level.Goals as goal

pub returns : goal.returns
returns c = told_by_length c.args.depth c.args.line.now c.is_empty.result c.utf8.line c.if-depth-eq0.false c.is_empty.ensures
