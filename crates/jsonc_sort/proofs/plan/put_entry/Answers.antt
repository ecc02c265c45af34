use Rattle.jsonc_sort.proofs.PlannedRow.{entry_gained}
use Rattle.jsonc_sort.proofs.plan.put_entry.Goals as goal

pub returns-clause-gains : goal.returns-clause-gains
returns-clause-gains g c =
    entry_gained c.args.row.now c.args.first c.args.comma c.args.place.now c.args.entry.now c.travelling.result c.args.tree.now.nodes c.put_tail.new.tree.nodes c.put_node.new.tree.nodes c.put_stretch.new.tree.nodes c.put_stretch-2.new.tree.nodes c.put_stretch-3.new.tree.nodes c.args.plan.now c.put_tail.new.plan
    c.put_node.new.plan c.put_stretch.new.plan c.put_stretch-2.new.plan c.put_stretch-3.new.plan c.travelling.ensures c.in_ok-put_tail.ensures.gains c.in_ok-put_node.ensures.gains c.in_ok-put_stretch.ensures.gains c.in_ok-put_stretch-2.ensures.gains c.in_ok-put_stretch-3.ensures.gains
