use Rattle.jsonc_edit.proofs.lemmas.commenting.Documents.{inserts_above, inserts_behind}
use Rattle.jsonc_edit.proofs.commenting.laws.comments_are_inserted.Goals as goal

pub returns-clause-above : goal.returns-clause-above
returns-clause-above c = inserts_above

pub returns-clause-behind : goal.returns-clause-behind
returns-clause-behind c = inserts_behind
