use Rattle.jsonc_insert.proofs.lemmas.properties.InsertedRows.{properties_are_written, properties_come_at, stands_in_place}
use Rattle.jsonc_insert.proofs.properties.laws.properties_come_into_documents.Goals as goal

pub returns-clause-row : goal.returns-clause-row
returns-clause-row c = properties_come_at

pub returns-clause-written : goal.returns-clause-written
returns-clause-written c = properties_are_written

pub returns-clause-place : goal.returns-clause-place
returns-clause-place c = stands_in_place
