use Rattle.jsonc_sort.specs.Rearranged.{headers_of}
use Rattle.jsonc_cst.proofs.lemmas.typed.HandlesKept.{nodes_stay}
use Rattle.jsonc_cst.proofs.lemmas.sorting.Placed.{is_placed, rearranged_stays}
use Rattle.jsonc_cst.proofs.sorting.placing.put_in_order.Goals as goal

pub returns-clause-placed : goal.returns-clause-placed
returns-clause-placed g c =
    is_placed c.args.tree.now.nodes c.rearrange.new.tree.nodes c.args.container (headers_of c.args.pinned.now c.args.groups) c.args.order.now c.args.tree.now.tree c.rearrange.new.tree.tree c.requires.holds c.requires.order c.in-Ok.ensures.made

pub returns-clause-handles : goal.returns-clause-handles
returns-clause-handles g c =
    nodes_stay c.args.tree.now.nodes c.rearrange.new.tree.nodes
    (rearranged_stays c.args.tree.now.nodes c.rearrange.new.tree.nodes c.args.container (headers_of c.args.pinned.now c.args.groups) c.args.order.now c.args.tree.now.tree c.rearrange.new.tree.tree c.requires.holds c.requires.order c.in-Ok.ensures.made)
