use Rattle.jsonc_edit.proofs.lemmas.multiline.Documents.{spread_at}
use Rattle.jsonc_edit.proofs.multiline.laws.containers_are_spread_out.Goals as goal

pub returns : goal.returns
returns c = λ o old new path n tree after sound at holds made. spread_at o old new path n tree sound at holds made
