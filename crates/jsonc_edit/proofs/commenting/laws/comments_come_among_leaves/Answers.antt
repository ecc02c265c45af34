use Rattle.jsonc_edit.proofs.lemmas.commenting.Documents.{gains_above, gains_behind}
use Rattle.jsonc_edit.proofs.commenting.laws.comments_come_among_leaves.Goals as goal

pub returns-clause-above : goal.returns-clause-above
returns-clause-above c = gains_above

pub returns-clause-behind : goal.returns-clause-behind
returns-clause-behind c = gains_behind
