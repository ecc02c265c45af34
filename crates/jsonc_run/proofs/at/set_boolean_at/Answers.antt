use Rattle.jsonc_run.proofs.Booleans.{boolean_made, boolean_told}
use Rattle.jsonc_run.proofs.EditsMade.{answers, not_found}
use Rattle.jsonc_run.specs.Edits.{set_boolean}
use Rattle.jsonc_run.proofs.at.set_boolean_at.Goals as goal

pub returns-in_default : goal.returns-in_default
returns-in_default g c = not_found _ _ c.find_needed.ensures.found (λ h. h) c.in_default.not-Some

pub set_boolean-requires-clause-boolean : goal.set_boolean-requires-clause-boolean
set_boolean-requires-clause-boolean g c = ((c.find_needed.ensures.found c.in-Some.leaf).0 c.in-Some.is).1

pub returns : goal.returns
returns g c =
    answers c.args.tree.now.nodes c.set_boolean.new.tree.nodes (set_boolean c.args.path.now c.args.value) c.set_boolean.result
    (boolean_made c.args.tree.now.nodes c.args.path.now c.in-Some.leaf c.args.value ((c.find_needed.ensures.found c.in-Some.leaf).0 c.in-Some.is) c.set_boolean.result c.set_boolean.new.tree.nodes c.set_boolean.ensures.set)
    (boolean_told c.args.tree.now.nodes c.args.path.now c.in-Some.leaf c.args.value ((c.find_needed.ensures.found c.in-Some.leaf).0 c.in-Some.is) c.set_boolean.result c.set_boolean.ensures.memory c.set_boolean.ensures.oom_only_if)
    c.set_boolean.ensures.kept c.set_boolean.ensures.document
