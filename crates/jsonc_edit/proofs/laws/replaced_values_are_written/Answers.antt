use Rattle.jsonc_edit.proofs.ReplacedValues.{laid_out_written, replaced_written}
use Rattle.jsonc_edit.proofs.laws.replaced_values_are_written.Goals as goal

pub returns-clause-laid_out : goal.returns-clause-laid_out
returns-clause-laid_out c = laid_out_written

pub returns-clause-replaced : goal.returns-clause-replaced
returns-clause-replaced c = replaced_written
