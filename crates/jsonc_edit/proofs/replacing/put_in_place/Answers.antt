use Rattle.jsonc_tree.proofs.Order.{parent_there}
use Rattle.jsonc_edit.proofs.replacing.put_in_place.Goals as goal

pub replace-requires-clause-in_tree : goal.replace-requires-clause-in_tree
replace-requires-clause-in_tree g c = (parent_there c.args.tree.now.nodes c.args.tree.now.tree c.args.node c.args.container c.requires.child).0

pub replace-requires-clause-can : goal.replace-requires-clause-can
replace-requires-clause-can g c = (c.args.container, c.requires.child, c.requires.join)

pub returns : goal.returns
returns g c = record { put = c.replace.ensures.replaces c.args.container c.requires.child }
