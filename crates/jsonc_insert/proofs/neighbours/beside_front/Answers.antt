use Rattle.std.proofs.Common.{◌≡◌, ◌≤◌, ap, false, is_some, slice_get, subst, sym, true, ◌∙◌, length, None}
use Rattle.jsonc_tree.specs.Tree.{children_at}
use Rattle.jsonc_insert.specs.Planned.{elements, has_brackets, plan_by}
use Rattle.jsonc_insert.proofs.RowFronts.{front_brackets, front_read, front_size}
use Rattle.jsonc_insert.proofs.neighbours.beside_front.Goals as goal

pub plan_front-plan-requires-clause-size : goal.plan_front-plan-requires-clause-size
plan_front-plan-requires-clause-size g c =
    let ns = c.args.tree.now.nodes in
    subst (λ l. 2 ≤ length l) (sym (c.deref.ensures.value ∙ c.in_ok-row.ensures)) (front_size ns (children_at ns c.args.container) c.requires.brackets)

pub plan_front-plan-requires-clause-brackets : goal.plan_front-plan-requires-clause-brackets
plan_front-plan-requires-clause-brackets g c =
    let ns = c.args.tree.now.nodes in
    subst (λ l. is_some (slice_get (elements ns l) 0) ≡ false → has_brackets ns l ≡ true) (sym (c.deref.ensures.value ∙ c.in_ok-row.ensures)) (front_brackets ns (children_at ns c.args.container) c.requires.brackets)

pub returns : goal.returns
returns g c =
    let ns = c.args.tree.now.nodes in
    let same = c.deref.ensures.value ∙ sym c.deref-2.ensures.value in
    front_read ns c.args.tree.now.tree c.args.container c.args.several c.requires.brackets c.deref-2.result.now (c.deref-2.ensures.value ∙ c.in_ok-row.ensures) c.plan_front-plan.result c.plan_front-plan.ensures.place
    (subst (λ l. c.plan_front-plan.result.place ≤ length l) same c.plan_front-plan.ensures.within) c.plan_front-plan.ensures.comma c.beside.result c.beside.ensures.plan c.beside.ensures.after c.beside.ensures.comma
    (λ commas i. c.plan_front-plan.ensures.plan commas i ∙ ap (λ l. plan_by ns c.args.several commas l i None) same)
