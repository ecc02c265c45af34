use Rattle.std.proofs.Common.{refl}
use Rattle.jsonc_tree.specs.Order.{upward}
use Rattle.jsonc_edit.proofs.multiline.laws.worked_documents.Goals as goal

pub returns-clause-lines : goal.returns-clause-lines
unfolding upward
returns-clause-lines c = refl
