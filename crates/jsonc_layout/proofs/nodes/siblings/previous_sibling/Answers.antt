use Rattle.jsonc_layout.proofs.lemmas.nodes.InTree.{given_there}
use Rattle.jsonc_layout.proofs.nodes.siblings.previous_sibling.Goals as goal

pub returns-clause-in_tree : goal.returns-clause-in_tree
returns-clause-in_tree g c = given_there c.args.tree.now.nodes c.previous_siblings.result c.next.new.self c.next.result c.next.ensures.steps c.previous_siblings.ensures.in_tree
