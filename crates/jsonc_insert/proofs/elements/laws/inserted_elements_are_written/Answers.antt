use Rattle.jsonc_insert.proofs.lemmas.elements.Written.{inserts_element, keeps_outside, keeps_inside}
use Rattle.jsonc_insert.proofs.elements.laws.inserted_elements_are_written.Goals as goal

pub returns-clause-document : goal.returns-clause-document
returns-clause-document c = inserts_element

pub returns-clause-outside : goal.returns-clause-outside
returns-clause-outside c = keeps_outside

pub returns-clause-inside : goal.returns-clause-inside
returns-clause-inside c = keeps_inside
