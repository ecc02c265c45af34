use Rattle.jsonc_edit.proofs.Splices.{joined_top, replaced_at_path}
use Rattle.jsonc_edit.proofs.laws.replaced_nodes_change_their_place.Goals as goal

pub returns-clause-changed : goal.returns-clause-changed
returns-clause-changed c = replaced_at_path

pub returns-clause-kept : goal.returns-clause-kept
returns-clause-kept c = joined_top
