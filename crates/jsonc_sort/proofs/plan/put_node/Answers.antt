use Rattle.std.proofs.Common.{sym, ◌∙◌}
use Rattle.jsonc_sort.proofs.Planning.{line_gained, node_gained}
use Rattle.jsonc_sort.proofs.plan.put_node.Goals as goal

pub returns-then-lacks_end-clause-gains : goal.returns-then-lacks_end-clause-gains
returns-then-lacks_end-clause-gains g c =
    line_gained c.args.tree.now.nodes c.put_leaf.new.tree.nodes c.args.plan.now c.put_leaf.new.plan c.put_child.new.plan c.args.node (sym c.lacks_end.ensures ∙ c.if-lacks_end.true) c.put_leaf.ensures.prepared.tree c.in_ok-put_leaf.ensures.gains c.in_ok-put_child.ensures

pub returns-clause-gains : goal.returns-clause-gains
returns-clause-gains g c = node_gained c.args.tree.now.nodes c.args.plan.now c.put_child-2.new.plan c.args.node (sym c.lacks_end.ensures ∙ c.if-lacks_end.false) c.in_ok-put_child-2.ensures
