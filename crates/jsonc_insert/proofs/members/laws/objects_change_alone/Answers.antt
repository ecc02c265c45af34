use Rattle.jsonc_insert.proofs.lemmas.members.Changing.{changes_object_alone, is_property}
use Rattle.jsonc_insert.proofs.members.laws.objects_change_alone.Goals as goal

pub returns-clause-object : goal.returns-clause-object
returns-clause-object c = changes_object_alone

pub returns-clause-property : goal.returns-clause-property
returns-clause-property c = is_property
