use Rattle.std.proofs.Common.{◌≤◌, arith, length, subst, sym}
use Rattle.jsonc_sort.proofs.Lasts.{last_end}
use Rattle.jsonc_sort.proofs.PlannedRow.{end_within}
use Rattle.jsonc_sort.proofs.plan.end_after.Goals as goal

pub returns-in-Some-clause-end : goal.returns-in-Some-clause-end
returns-in-Some-clause-end c = last_end 0 c.args.entries.now c.in-Some.entry.now (sym c.in-Some.ensures.value)

pub returns-in-Some-clause-within : goal.returns-in-Some-clause-within
returns-in-Some-clause-within c =
    subst (λ k. k ≤ length c.args.row.now) (sym (last_end 0 c.args.entries.now c.in-Some.entry.now (sym c.in-Some.ensures.value))) (end_within c.args.row.now 0 c.args.entries.now (omega arith) c.requires)
