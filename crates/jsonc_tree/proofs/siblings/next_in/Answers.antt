use Rattle.jsonc_tree.proofs.LinkedRows.{after_node}
use Rattle.jsonc_tree.proofs.siblings.next_in.Goals as goal

pub returns : goal.returns
returns g c = (after_node c.args.nodes.now.items c.requires.stored c.args.n c.next_of.result c.next_of.ensures).2
