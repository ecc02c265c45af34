use Rattle.jsonc_insert.proofs.lemmas.elements.InsertedValues.{elements_come_at}
use Rattle.jsonc_insert.proofs.elements.laws.elements_come_into_rows.Goals as goal

pub returns : goal.returns
returns c = elements_come_at
