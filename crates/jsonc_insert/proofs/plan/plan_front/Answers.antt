use Rattle.std.proofs.Common.{◌≤◌, ap, is_some, subst, sym, ◌∙◌}
use Rattle.jsonc_insert.specs.declared.plan.Plan.{Plan}
use Rattle.jsonc_insert.proofs.FirstAndLast.{alone_low}
use Rattle.jsonc_insert.proofs.plan.plan_front.Goals as goal

pub returns-clause-place : goal.returns-clause-place
returns-clause-place g c =
    let none = ap is_some (sym c.nth_element.ensures.element) ∙ sym c.is_some.ensures ∙ c.if-is_some.false in
    subst (λ (p : Plan). 1 ≤ p.place) (sym c.plan_alone.ensures.plan) (alone_low c.args.tree.now.nodes c.args.row.now (c.requires.brackets none))
