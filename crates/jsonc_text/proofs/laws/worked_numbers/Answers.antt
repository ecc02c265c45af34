use Rattle.jsonc_text.proofs.Rows.{five_five_document, zero_first, no_zero_one, one_e_none}
use Rattle.jsonc_text.proofs.laws.worked_numbers.Goals as goal

pub returns-clause-five_five : goal.returns-clause-five_five
returns-clause-five_five c = five_five_document

pub returns-clause-zero : goal.returns-clause-zero
returns-clause-zero c = zero_first

pub returns-clause-zero_one : goal.returns-clause-zero_one
returns-clause-zero_one c = no_zero_one

pub returns-clause-one_e : goal.returns-clause-one_e
returns-clause-one_e c = one_e_none
