use Rattle.jsonc_edit.proofs.lemmas.set.FirstValueRows.{comes_among_rows}
use Rattle.jsonc_edit.proofs.lemmas.set.FirstValueSet.{gives_first_value}
use Rattle.jsonc_edit.proofs.set.laws.documents_have_their_first_value.Goals as goal

pub returns-clause-rows : goal.returns-clause-rows
returns-clause-rows c = comes_among_rows

pub returns-clause-document : goal.returns-clause-document
returns-clause-document c = gives_first_value
