use Rattle.jsonc_tree.specs.Stored.{content_of}
use Rattle.jsonc_layout.proofs.lemmas.Building.{leaf_gained}
use Rattle.jsonc_layout.proofs.building.Row.push.Goals as goal

pub returns-clause-gains : goal.returns-clause-gains
returns-clause-gains g c =
    leaf_gained c.args.tree.now.nodes c.add.new.self.nodes (content_of c.args.kind) c.args.self.now.nodes.items c.push.new.self.items c.in_ok-leaf.leaf c.in_ok-leaf.ensures.added c.in_ok-leaf.ensures.number c.in_ok-push.ensures.items
