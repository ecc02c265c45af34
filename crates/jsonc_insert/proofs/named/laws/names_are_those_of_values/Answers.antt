use Rattle.jsonc_insert.proofs.lemmas.named.Writing.{finds_member}
use Rattle.jsonc_insert.proofs.named.laws.names_are_those_of_values.Goals as goal

pub returns : goal.returns
returns c = finds_member
