use Rattle.jsonc_edit.proofs.lemmas.set.RenamedPlace.{has_new_name, keeps_propertys_place}
use Rattle.jsonc_edit.proofs.lemmas.set.RenamedProperty.{is_marked, stays_around, writes_name}
use Rattle.jsonc_edit.proofs.set.laws.properties_are_renamed.Goals as goal

pub returns-clause-written : goal.returns-clause-written
returns-clause-written c = writes_name

pub returns-clause-around : goal.returns-clause-around
returns-clause-around c = λ old new p m name tree given. stays_around old new p m name tree given

pub returns-clause-marked : goal.returns-clause-marked
returns-clause-marked c = λ old new p m name tree given. is_marked old new p m name tree given

pub returns-clause-place : goal.returns-clause-place
returns-clause-place c = keeps_propertys_place

pub returns-clause-name : goal.returns-clause-name
returns-clause-name c = has_new_name
