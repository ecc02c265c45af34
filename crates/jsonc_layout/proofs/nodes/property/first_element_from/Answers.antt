use Rattle.std.proofs.Common.{ap, ◌∙◌, drop}
use Rattle.std.specs.List.{find}
use Rattle.jsonc_tree.specs.Tree.{children_at}
use Rattle.jsonc_layout.specs.nodes.Kinds.{is_element_at}
use Rattle.jsonc_layout.proofs.lemmas.nodes.InTree.{found_there}
use Rattle.jsonc_layout.proofs.nodes.property.first_element_from.Goals as goal

pub returns-clause-element : goal.returns-clause-element
returns-clause-element g c = c.first_element.ensures ∙ ap (find (is_element_at c.args.tree.now.nodes)) c.children_from.ensures.children

pub returns-clause-in_tree : goal.returns-clause-in_tree
returns-clause-in_tree g c =
    let ns = c.args.tree.now.nodes in
    found_there ns (is_element_at ns) c.first_element.result c.children_from.result (drop c.args.place (children_at ns c.args.node)) (returns-clause-element g c) c.children_from.ensures.children c.children_from.ensures.in_tree
