use Rattle.jsonc_sort.proofs.PlannedRow.{order_below}
use Rattle.jsonc_sort.proofs.plan.number_at.Goals as goal

pub returns-clause-within : goal.returns-clause-within
returns-clause-within c = order_below c.args.count c.args.order.now c.requires.order c.args.place c.requires.place
