use Rattle.jsonc_edit.proofs.Splices.{respliced_over, respliced_row, respliced_others}
use Rattle.jsonc_edit.proofs.laws.spliced_rows_change_their_place.Goals as goal

pub returns-clause-changed : goal.returns-clause-changed
returns-clause-changed c = respliced_over

pub returns-clause-row : goal.returns-clause-row
returns-clause-row c = respliced_row

pub returns-clause-kept : goal.returns-clause-kept
returns-clause-kept c = respliced_others
