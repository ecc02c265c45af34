use Rattle.jsonc_run.proofs.Calls as calls
use Rattle.jsonc_run.proofs.DetachedNodes as elsewhere
use Rattle.jsonc_run.proofs.Parents as parents
use Rattle.jsonc_run.proofs.laws.calls_keep_parents.Goals as goal

pub returns-clause-one : goal.returns-clause-one
returns-clause-one c = parents.call_keeps_parents

pub returns-clause-list : goal.returns-clause-list
returns-clause-list c = parents.calls_keep_parents

pub returns-clause-document : goal.returns-clause-document
returns-clause-document c = parents.stays_with_its_nodes

pub returns-clause-apart : goal.returns-clause-apart
returns-clause-apart c = elsewhere.call_stays_apart

pub returns-clause-quiet : goal.returns-clause-quiet
returns-clause-quiet c = elsewhere.calls_stay_apart

pub returns-clause-edit : goal.returns-clause-edit
returns-clause-edit c = calls.edit_is_call

pub returns-clause-refused : goal.returns-clause-refused
returns-clause-refused c = calls.refusal_is_call
