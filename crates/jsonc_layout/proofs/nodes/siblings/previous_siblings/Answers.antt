use Rattle.std.proofs.Common.{subst, sym}
use Rattle.jsonc_layout.specs.nodes.Siblings.{AreThere}
use Rattle.jsonc_layout.proofs.lemmas.nodes.InTree.{before_there}
use Rattle.jsonc_layout.proofs.nodes.siblings.previous_siblings.Goals as goal

pub returns-clause-in_tree : goal.returns-clause-in_tree
returns-clause-in_tree g c = subst (AreThere c.args.tree.now.nodes) (sym c.previous_siblings.ensures.siblings) (before_there c.args.tree.now.nodes c.args.tree.now.tree c.args.node)
