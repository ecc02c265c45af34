use Rattle.jsonc_edit.proofs.Splices.{leaf_content, leaf_others, leaf_over}
use Rattle.jsonc_edit.proofs.laws.changed_leaves_change_their_place.Goals as goal

pub returns-clause-changed : goal.returns-clause-changed
returns-clause-changed c = leaf_over

pub returns-clause-content : goal.returns-clause-content
returns-clause-content c = leaf_content

pub returns-clause-kept : goal.returns-clause-kept
returns-clause-kept c = leaf_others
