use Rattle.jsonc_insert.proofs.BlanksRemoved.{loses_blanks_alone}
use Rattle.jsonc_insert.proofs.laws.blanks_alone_leave.Goals as goal

pub returns : goal.returns
returns c = loses_blanks_alone
