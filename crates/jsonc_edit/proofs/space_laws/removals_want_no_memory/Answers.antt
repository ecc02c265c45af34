use Rattle.jsonc_edit.proofs.lemmas.remove.Commented.{comment_wants_none}
use Rattle.jsonc_edit.proofs.lemmas.remove.NoSpace.{element_wants_none}
use Rattle.jsonc_edit.proofs.space_laws.removals_want_no_memory.Goals as goal

pub returns-clause-element : goal.returns-clause-element
returns-clause-element c = element_wants_none

pub returns-clause-comment : goal.returns-clause-comment
returns-clause-comment c = comment_wants_none
