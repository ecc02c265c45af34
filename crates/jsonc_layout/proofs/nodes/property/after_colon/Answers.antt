use Rattle.std.proofs.Common.{ap, ◌∙◌}
use Rattle.std.specs.List.{find}
use Rattle.jsonc_layout.specs.nodes.Properties.{behind_colon}
use Rattle.jsonc_layout.specs.nodes.Kinds.{is_element_at}
use Rattle.jsonc_layout.proofs.lemmas.nodes.InTree.{found_there}
use Rattle.jsonc_layout.proofs.nodes.property.after_colon.Goals as goal

pub returns-clause-element : goal.returns-clause-element
returns-clause-element g c = c.first_element.ensures ∙ ap (find (is_element_at c.args.tree.now.nodes)) c.behind_colon.ensures.children

pub returns-clause-in_tree : goal.returns-clause-in_tree
returns-clause-in_tree g c =
    let ns = c.args.tree.now.nodes in
    found_there ns (is_element_at ns) c.first_element.result c.behind_colon.result (behind_colon ns c.args.node) (returns-clause-element g c) c.behind_colon.ensures.children c.behind_colon.ensures.in_tree
