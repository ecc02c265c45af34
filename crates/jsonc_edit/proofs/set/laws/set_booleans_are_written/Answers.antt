use Rattle.jsonc_edit.proofs.lemmas.set.WrittenBoolean.{stays_at_path, writes_boolean}
use Rattle.jsonc_edit.proofs.set.laws.set_booleans_are_written.Goals as goal

pub returns-clause-written : goal.returns-clause-written
returns-clause-written c = writes_boolean

pub returns-clause-place : goal.returns-clause-place
returns-clause-place c = stays_at_path
