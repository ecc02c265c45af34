use Rattle.jsonc_edit.proofs.ReplacedValues.{laid_out_changes, replaced_changes}
use Rattle.jsonc_edit.proofs.laws.replaced_values_change_the_document.Goals as goal

pub returns-clause-laid_out : goal.returns-clause-laid_out
returns-clause-laid_out c = laid_out_changes

pub returns-clause-replaced : goal.returns-clause-replaced
returns-clause-replaced c = replaced_changes
