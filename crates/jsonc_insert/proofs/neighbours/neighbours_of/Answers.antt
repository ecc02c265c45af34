use Rattle.std.proofs.Common.{sym, subst, ◌∙◌}
use Rattle.jsonc_tree.specs.Tree.{children_at}
use Rattle.jsonc_insert.specs.Neighbours.{IsBeside}
use Rattle.jsonc_insert.specs.Planned.{plan_by}
use Rattle.jsonc_insert.proofs.Windows.{child_before, on_ok}
use Rattle.jsonc_insert.proofs.neighbours.neighbours_of.Goals as goal

pub returns-in_default : goal.returns-in_default
returns-in_default g c =
    let ns = c.args.tree.now.nodes in
    let row = children_at ns c.args.container in
    on_ok c.beside_front.result
    (λ b told. subst (λ o. IsBeside ns c.args.container (plan_by ns c.args.several c.args.commas row c.args.index o) b) (sym (sym c.element_before.ensures.element ∙ c.in_default.is)) (told c.args.commas c.args.index)) c.beside_front.ensures

pub returns : goal.returns
returns g c =
    let ns = c.args.tree.now.nodes in
    let row = children_at ns c.args.container in
    let is = sym c.element_before.ensures.element ∙ c.in-Some.is in
    on_ok c.beside_element.result
    (λ b told. subst (λ o. IsBeside ns c.args.container (plan_by ns c.args.several c.args.commas row c.args.index o) b) (sym is) (told c.args.container c.args.index (child_before ns c.args.tree.now.tree c.args.container c.args.index c.in-Some.node is) (sym c.has_element-more.ensures))) c.beside_element.ensures
