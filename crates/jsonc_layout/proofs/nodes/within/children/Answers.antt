use Rattle.std.proofs.Common.{arith}
use Rattle.std.proofs.lemmas.Grind.{common_steps}
use Rattle.jsonc_layout.proofs.lemmas.nodes.InTree.{children_there}
use Rattle.jsonc_layout.proofs.nodes.within.children.Goals as goal

pub returns-clause-in_tree : goal.returns-clause-in_tree
returns-clause-in_tree g c = grind (arith, common_steps, children_there c.args.tree.now.nodes c.args.tree.now.tree c.args.node)
