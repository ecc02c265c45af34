use Rattle.jsonc_edit.proofs.Writable.{value_may_stand, property_may_stand}
use Rattle.jsonc_edit.proofs.laws.laid_values_may_stand.Goals as goal

pub returns-clause-value : goal.returns-clause-value
returns-clause-value c = value_may_stand

pub returns-clause-property : goal.returns-clause-property
returns-clause-property c = property_may_stand
