use Rattle.std.proofs.Common.{sym, ◌∙◌}
use Rattle.jsonc_sort.proofs.PlannedRow.{bare_gained}
use Rattle.jsonc_sort.proofs.plan.put_tail.Goals as goal

pub returns-then-not-comma-clause-gains : goal.returns-then-not-comma-clause-gains
returns-then-not-comma-clause-gains g c =
    bare_gained c.args.row.now c.args.entry.now c.args.tree.now.nodes c.put_stretch.new.tree.nodes c.put_stretch-then-not-comma.new.tree.nodes c.args.plan.now c.put_stretch.new.plan c.put_stretch-then-not-comma.new.plan c.args.comma
    (sym c.has_comma.ensures ∙ c.if-has_comma.true) c.if-not-comma.true c.in_ok-put_stretch.ensures.gains c.in_ok-put_stretch-2.ensures.gains
