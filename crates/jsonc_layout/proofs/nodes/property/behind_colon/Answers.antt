use Rattle.std.proofs.Common.{rules, subst, sym}
use Rattle.jsonc_layout.specs.nodes.Kinds.{is_colon_at}
use Rattle.jsonc_layout.specs.nodes.Properties.{behind_name}
use Rattle.jsonc_layout.specs.nodes.Siblings.{AreThere}
use Rattle.jsonc_layout.proofs.lemmas.nodes.Rows.{left_behind}
use Rattle.jsonc_layout.proofs.lemmas.nodes.InTree.{behind_there}
use Rattle.jsonc_layout.proofs.nodes.property.behind_colon.Goals as goal

pub returns-clause-children : goal.returns-clause-children
returns-clause-children g c =
    let ns = c.args.tree.now.nodes in
    left_behind (is_colon_at ns) _ (λ x b q k. search rules) _ (behind_name ns c.args.property) _ _ c.find-colon.ensures.ran c.behind_name-children.ensures.children

pub returns-clause-in_tree : goal.returns-clause-in_tree
returns-clause-in_tree g c =
    let ns = c.args.tree.now.nodes in
    subst (AreThere ns) (sym (returns-clause-children g c)) (behind_there ns (is_colon_at ns) (behind_name ns c.args.property) (subst (AreThere ns) c.behind_name-children.ensures.children c.behind_name-children.ensures.in_tree))
