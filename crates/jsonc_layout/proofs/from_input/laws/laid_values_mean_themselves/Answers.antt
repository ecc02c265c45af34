use Rattle.jsonc_layout.proofs.lemmas.from_input.Meanings.{laid_value, laid_pair}
use Rattle.jsonc_layout.proofs.from_input.laws.laid_values_mean_themselves.Goals as goal

pub returns-clause-value : goal.returns-clause-value
returns-clause-value c = laid_value

pub returns-clause-property : goal.returns-clause-property
returns-clause-property c = laid_pair
