use Rattle.jsonc_edit.proofs.SpacePlaces.{node_there}
use Rattle.jsonc_edit.proofs.put.put_space.Goals as goal

pub parent-requires : goal.parent-requires
parent-requires g c = node_there c.args.tree.now.nodes c.args.tree.now.tree c.args.space c.in-Some.space c.in-Some.is c.requires.child
