use Rattle.jsonc_insert.proofs.lemmas.members.Numbering.{changes_one_row, takes_number}
use Rattle.jsonc_insert.proofs.members.laws.properties_come_in.Goals as goal

pub returns-clause-row : goal.returns-clause-row
returns-clause-row c = changes_one_row

pub returns-clause-number : goal.returns-clause-number
returns-clause-number c = takes_number
