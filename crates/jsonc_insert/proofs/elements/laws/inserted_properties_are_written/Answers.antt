use Rattle.jsonc_insert.proofs.lemmas.elements.NamedProperties.{inserts_member, keeps_around, keeps_within}
use Rattle.jsonc_insert.proofs.elements.laws.inserted_properties_are_written.Goals as goal

pub returns-clause-document : goal.returns-clause-document
returns-clause-document c = inserts_member

pub returns-clause-outside : goal.returns-clause-outside
returns-clause-outside c = keeps_around

pub returns-clause-inside : goal.returns-clause-inside
returns-clause-inside c = keeps_within
