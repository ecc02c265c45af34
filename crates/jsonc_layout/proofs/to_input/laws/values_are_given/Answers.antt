use Rattle.jsonc_layout.proofs.lemmas.to_input.ReadValues.{value_gives, document_gives}
use Rattle.jsonc_layout.proofs.to_input.laws.values_are_given.Goals as goal

pub returns-clause-node : goal.returns-clause-node
returns-clause-node c = λ o content below v h colons. value_gives h colons

pub returns-clause-document : goal.returns-clause-document
returns-clause-document c = document_gives
