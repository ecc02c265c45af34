use Rattle.jsonc_layout.proofs.lemmas.to_input.OneValue.{gives_once}
use Rattle.jsonc_layout.proofs.to_input.laws.one_value_is_given.Goals as goal

pub returns : goal.returns
returns c = λ content below v w g h. gives_once g h
