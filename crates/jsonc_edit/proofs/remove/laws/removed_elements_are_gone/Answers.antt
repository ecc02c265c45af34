use Rattle.jsonc_edit.proofs.lemmas.remove.RemovedElement.{removes_entry}
use Rattle.jsonc_edit.proofs.lemmas.remove.RemovedValue.{removes_value}
use Rattle.jsonc_edit.proofs.remove.laws.removed_elements_are_gone.Goals as goal

pub returns-clause-entry : goal.returns-clause-entry
returns-clause-entry c = removes_entry

pub returns-clause-value : goal.returns-clause-value
returns-clause-value c = removes_value
