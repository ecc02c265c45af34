use Rattle.std.proofs.Common.{◌≡◌, true, not, None, Some, sym, ◌∙◌}
use Rattle.jsonc_layout.specs.nodes.Kinds.{is_element_at}
use Rattle.jsonc_edit.proofs.Uniqueness.{element_parent}
use Rattle.jsonc_cst.proofs.NodePaths.{element_is, is_one}
use Rattle.jsonc_cst.proofs.cst.paths.element_place.Goals as goal

pub returns-then-not-is_element-clause-none : goal.returns-then-not-is_element-clause-none
returns-then-not-is_element-clause-none g c =
    λ p i e.
    (let one : is_element_at c.args.tree.now.nodes c.args.node ≡ true = is_one c.args.tree.now.nodes p i c.args.node e in
    let wrong : not true ≡ true = cc (one, c.is_element.ensures.element, c.if-not-is_element.true) in
    cc)

pub returns-in_default-clause-none : goal.returns-in_default-clause-none
returns-in_default-clause-none g c =
    λ p i e. (let wrong : None ≡ Some p = c.in_default.ensures ∙ element_parent c.args.tree.now.nodes c.args.tree.now.tree p i c.args.node e in cc)

pub returns-clause-found : goal.returns-clause-found
returns-clause-found g c =
    let element : is_element_at c.args.tree.now.nodes c.args.node ≡ true = cc (c.is_element.ensures.element, c.if-not-is_element.false) in
    element_is c.args.tree.now.nodes c.args.tree.now.tree c.args.node c.in-Some.container c.in-Some-element_index.place (sym c.in-Some.ensures) c.in-Some-element_index.ensures.index element
