use Rattle.jsonc_tree.proofs.LinkedRows.{before_node}
use Rattle.jsonc_tree.proofs.siblings.previous_in.Goals as goal

pub returns : goal.returns
returns g c = (before_node c.args.nodes.now.items c.requires.stored c.args.n c.previous_of.result c.previous_of.ensures).2
