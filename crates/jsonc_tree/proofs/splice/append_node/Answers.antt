use Rattle.std.proofs.Common.{length, refl}
use Rattle.jsonc_tree.specs.Tree.{children_at}
use Rattle.jsonc_tree.proofs.Appending.{Appends-splice}
use Rattle.jsonc_tree.specs.Stored.{nodes_of}
use Rattle.jsonc_tree.proofs.UnchangedRows.{end_gap}
use Rattle.jsonc_tree.proofs.splice.append_node.Goals as goal

pub put_between-requires-clause-gap : goal.put_between-requires-clause-gap
put_between-requires-clause-gap g c = (length (children_at (nodes_of c.args.nodes.now.items) c.args.c), end_gap c.args.nodes.now.items c.requires.stored c.args.c c.last_of-last.result c.last_of-last.ensures)

pub returns-clause-appends : goal.returns-clause-appends
returns-clause-appends g c =
    Appends-splice (nodes_of c.args.nodes.now.items) (nodes_of c.put_between.new.nodes.items) c.args.c (length (children_at (nodes_of c.args.nodes.now.items) c.args.c)) c.args.x refl (c.put_between.ensures.fills (length (children_at (nodes_of c.args.nodes.now.items) c.args.c)) (end_gap c.args.nodes.now.items c.requires.stored c.args.c c.last_of-last.result c.last_of-last.ensures))
