use Rattle.std.proofs.Common.{rules}
use Rattle.jsonc_tree.specs.Tree.{children_at}
use Rattle.jsonc_layout.specs.nodes.Properties.{is_name_at}
use Rattle.jsonc_layout.proofs.lemmas.nodes.Rows.{find_in}
use Rattle.jsonc_layout.proofs.lemmas.nodes.InTree.{found_there}
use Rattle.jsonc_layout.proofs.nodes.property.name_of.Goals as goal

pub returns-clause-name : goal.returns-clause-name
returns-clause-name g c =
    let ns = c.args.tree.now.nodes in
    find_in (is_name_at ns) (children_at ns c.args.property) _ _ _ c.find.ensures.ran c.children_from.ensures.children (λ x b q k. search rules)

pub returns-clause-in_tree : goal.returns-clause-in_tree
returns-clause-in_tree g c =
    let ns = c.args.tree.now.nodes in
    found_there ns (is_name_at ns) c.find.result c.children_from.result (children_at ns c.args.property) (returns-clause-name g c) c.children_from.ensures.children c.children_from.ensures.in_tree
