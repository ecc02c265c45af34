use Rattle.std.proofs.Common.{rules, sym}
use Rattle.jsonc_edit.proofs.Finding.{object_stepped}
use Rattle.jsonc_edit.proofs.paths.step.Goals as goal

pub returns-in_ok-element_at-in-Object-clause-stepped :
    goal.returns-in_ok-element_at-in-Object-clause-stepped
returns-in_ok-element_at-in-Object-clause-stepped g c =
    object_stepped c.args.tree.now.nodes c.args.value c.args.place c.in_ok-element_at-in-Object.field-0 c.held_by.result (search rules) (sym c.in_ok-element_at-in-Object.ensures.element) c.held_by.ensures.held
