use Rattle.std.proofs.Common.{◌∙◌}
use Rattle.jsonc_insert.specs.Planned.{plan_behind}
use Rattle.std.proofs.Common.{◌≤◌, ap, subst, sym, length}
use Rattle.jsonc_insert.proofs.RowFronts.{beside_read}
use Rattle.jsonc_insert.proofs.neighbours.beside_element.Goals as goal

pub returns : goal.returns
returns g c = λ d i said more.
    let ns = c.args.tree.now.nodes in
    let same = c.deref.ensures.value ∙ sym c.deref-2.ensures.value in
    beside_read ns c.args.tree.now.tree d c.args.node said c.args.several c.args.commas c.args.more i more c.deref-2.result.now (c.deref-2.ensures.value ∙ c.in_ok-row.ensures) c.plan_behind-plan.result
    (c.plan_behind-plan.ensures.plan ∙ ap (λ l. plan_behind ns c.args.several c.args.commas l c.args.more 1) same) (subst (λ l. c.plan_behind-plan.result.place ≤ length l) same c.plan_behind-plan.ensures.within) c.beside.result c.beside.ensures.plan c.beside.ensures.after c.beside.ensures.comma
