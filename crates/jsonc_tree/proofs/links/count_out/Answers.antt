use Rattle.jsonc_tree.proofs.LineEnds.{counted_out_none}
use Rattle.jsonc_tree.proofs.links.count_out.Goals as goal

pub returns-else-newline-clause-nodes : goal.returns-else-newline-clause-nodes
returns-else-newline-clause-nodes g c = counted_out_none c.args.nodes.now.items c.args.c c.args.newline c.if-newline.false
