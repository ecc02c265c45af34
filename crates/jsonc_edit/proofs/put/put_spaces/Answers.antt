use Rattle.jsonc_edit.proofs.SpacePlaces.{free_yet, children_yet, spaces_put}
use Rattle.jsonc_edit.proofs.put.put_spaces.Goals as goal

pub put_space-requires-2-clause-free : goal.put_space-requires-2-clause-free
put_space-requires-2-clause-free g c = free_yet c.args.tree.now.nodes c.put_space.new.tree.nodes c.args.tree.now.tree c.args.spaces c.put_space.ensures.put c.requires.hand.two c.requires.hand.behind

pub put_space-requires-2-clause-child : goal.put_space-requires-2-clause-child
put_space-requires-2-clause-child g c = children_yet c.args.tree.now.nodes c.put_space.new.tree.nodes c.args.tree.now.tree c.args.spaces c.requires.hand.before c.put_space.ensures.put c.requires.children

pub returns : goal.returns
returns g c = record { put = spaces_put c.args.tree.now.nodes c.put_space.new.tree.nodes c.put_space-2.new.tree.nodes c.args.spaces c.put_space.ensures.put c.put_space-2.ensures.put }
