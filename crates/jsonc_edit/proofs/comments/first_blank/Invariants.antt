use Rattle.jsonc_edit.proofs.BlanksBefore.{Back}
use Rattle.jsonc_edit.proofs.comments.first_blank.Given as goal

abbrev pub invariant-loop-sibling : goal.invariant-loop-sibling
invariant-loop-sibling g l = Back l.tree.nodes l.tree.tree l.container l.node l.first l.sibling-iterator
