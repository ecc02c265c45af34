use Rattle.jsonc_cst.proofs.Tree.{nodes_are_tree}
use Rattle.jsonc_cst.proofs.cst.CstRootNode.root.Goals as goal

pub returns-clause-tree : goal.returns-clause-tree
returns-clause-tree g c = nodes_are_tree c.args.self.now
