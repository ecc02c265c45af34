use Rattle.std.proofs.Common.{ap, refl, ◌∙◌, ◌<◌, length, reverse}
use Rattle.std.specs.List.{find}
use Rattle.jsonc_tree.specs.Tree.{children_at}
use Rattle.jsonc_layout.specs.nodes.Kinds.{is_element_at}
use Rattle.jsonc_layout.proofs.lemmas.nodes.InTree.{All-reverse, children_there, found_there}
use Rattle.jsonc_layout.proofs.lines.breadth.last_child_element.Goals as goal

pub returns-clause-last : goal.returns-clause-last
returns-clause-last g c = c.first_element_back.ensures ∙ ap (find (is_element_at c.args.tree.now.nodes)) c.children_reversed.ensures.children

pub returns-clause-in_tree : goal.returns-clause-in_tree
returns-clause-in_tree g c =
    let ns = c.args.tree.now.nodes in
    let row = children_at ns c.args.node in
    found_there ns (is_element_at ns) c.first_element_back.result (reverse row) (reverse row) (returns-clause-last g c) refl (All-reverse (λ m. m < length ns) row (children_there ns c.args.tree.now.tree c.args.node))
