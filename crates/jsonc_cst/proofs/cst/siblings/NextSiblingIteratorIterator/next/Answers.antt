use Rattle.jsonc_cst.proofs.Readings.{rest_there}
use Rattle.jsonc_cst.proofs.cst.siblings.NextSiblingIteratorIterator.next.Goals as goal

pub invariant_of-self-2 : goal.invariant_of-self-2
invariant_of-self-2 g c = rest_there c.self.inside.tree.now.nodes c.self.inside.after c.next.new.self c.in-Some.number c.in-Some.ensures.steps c.self.invariant
