use Rattle.std.proofs.Common.{ap, ◌∙◌}
use Rattle.std.specs.List.{find}
use Rattle.jsonc_layout.specs.nodes.Siblings.{siblings_before}
use Rattle.jsonc_layout.specs.nodes.Kinds.{is_element_at}
use Rattle.jsonc_layout.proofs.lemmas.nodes.InTree.{found_there}
use Rattle.jsonc_layout.proofs.nodes.within.previous_element.Goals as goal

pub returns-clause-element : goal.returns-clause-element
returns-clause-element g c = c.first_element_back.ensures ∙ ap (find (is_element_at c.args.tree.now.nodes)) c.previous_siblings.ensures.siblings

pub returns-clause-in_tree : goal.returns-clause-in_tree
returns-clause-in_tree g c =
    let ns = c.args.tree.now.nodes in
    found_there ns (is_element_at ns) c.first_element_back.result c.previous_siblings.result (siblings_before ns c.args.node) (returns-clause-element g c) c.previous_siblings.ensures.siblings c.previous_siblings.ensures.in_tree
