use Rattle.std.proofs.Common.{rules, subst, sym}
use Rattle.jsonc_tree.specs.Tree.{children_at}
use Rattle.jsonc_layout.specs.nodes.Properties.{is_name_at}
use Rattle.jsonc_layout.specs.nodes.Siblings.{AreThere}
use Rattle.jsonc_layout.proofs.lemmas.nodes.Rows.{left_behind}
use Rattle.jsonc_layout.proofs.lemmas.nodes.InTree.{behind_there}
use Rattle.jsonc_layout.proofs.nodes.property.behind_name.Goals as goal

pub returns-clause-children : goal.returns-clause-children
returns-clause-children g c =
    let ns = c.args.tree.now.nodes in
    left_behind (is_name_at ns) _ (λ x b q k. search rules) _ (children_at ns c.args.property) _ _ c.find-name.ensures.ran c.children_from-children.ensures.children

pub returns-clause-in_tree : goal.returns-clause-in_tree
returns-clause-in_tree g c =
    let ns = c.args.tree.now.nodes in
    subst (AreThere ns) (sym (returns-clause-children g c)) (behind_there ns (is_name_at ns) (children_at ns c.args.property) (subst (AreThere ns) c.children_from-children.ensures.children c.children_from-children.ensures.in_tree))
