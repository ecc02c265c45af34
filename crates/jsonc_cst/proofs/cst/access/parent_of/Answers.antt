use Rattle.std.proofs.Common.{sym}
use Rattle.jsonc_cst.proofs.Family.{parent_is}
use Rattle.jsonc_cst.proofs.cst.access.parent_of.Goals as goal

pub container_at-requires-clause-in_tree : goal.container_at-requires-clause-in_tree
container_at-requires-clause-in_tree g c = (parent_is c.args.tree.now.nodes c.args.tree.now.tree c.args.number c.in-Some.parent (sym c.in-Some.ensures)).0

pub container_at-requires-clause-container : goal.container_at-requires-clause-container
container_at-requires-clause-container g c = (parent_is c.args.tree.now.nodes c.args.tree.now.tree c.args.number c.in-Some.parent (sym c.in-Some.ensures)).1
