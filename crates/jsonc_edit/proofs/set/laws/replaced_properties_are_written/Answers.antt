use Rattle.jsonc_edit.proofs.lemmas.set.PropertyPlace.{takes_propertys_place}
use Rattle.jsonc_edit.proofs.lemmas.set.WrittenProperty.{writes_property}
use Rattle.jsonc_edit.proofs.set.laws.replaced_properties_are_written.Goals as goal

pub returns-clause-written : goal.returns-clause-written
returns-clause-written c = writes_property

pub returns-clause-place : goal.returns-clause-place
returns-clause-place c = takes_propertys_place
