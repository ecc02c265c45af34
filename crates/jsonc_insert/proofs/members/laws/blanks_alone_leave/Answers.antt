use Rattle.jsonc_insert.proofs.lemmas.members.BlanksRemoved.{loses_blanks_alone}
use Rattle.jsonc_insert.proofs.members.laws.blanks_alone_leave.Goals as goal

pub returns : goal.returns
returns c = loses_blanks_alone
