use Rattle.std.proofs.Common.{refl}
use lib.Utf8.{encode}
use Rattle.jsonc_tree.specs.Order.{in_order, upward}
use Rattle.jsonc_edit.proofs.commas.laws.worked_documents.Goals as goal

pub returns-clause-holders : goal.returns-clause-holders
unfolding in_order upward
returns-clause-holders c = refl

pub returns-clause-text : goal.returns-clause-text
unfolding in_order encode
returns-clause-text c = refl

pub returns-clause-set : goal.returns-clause-set
unfolding in_order encode
returns-clause-set c = refl

pub returns-clause-lost : goal.returns-clause-lost
unfolding in_order upward
returns-clause-lost c = refl

pub returns-clause-itself : goal.returns-clause-itself
unfolding in_order upward
returns-clause-itself c = refl
