use Rattle.jsonc_edit.proofs.lemmas.remove.Entries.{entry_taken}
use Rattle.jsonc_edit.proofs.lemmas.remove.Roots.{value_taken}
use Rattle.jsonc_edit.proofs.remove.laws.elements_are_taken_out.Goals as goal

pub returns-clause-entry : goal.returns-clause-entry
returns-clause-entry c = entry_taken

pub returns-clause-value : goal.returns-clause-value
returns-clause-value c = λ o old new n tree after sound element takes. value_taken o old new n tree after sound element takes
