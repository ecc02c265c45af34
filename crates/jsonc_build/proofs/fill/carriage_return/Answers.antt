use Rattle.jsonc_build.proofs.GapLeaves.{cr_lf_at, cr_at_end, cr_before}
use Rattle.jsonc_build.proofs.fill.carriage_return.Goals as goal

pub returns-in_default-clause-leaf : goal.returns-in_default-clause-leaf
returns-in_default-clause-leaf c = cr_at_end c.args.text.now c.args.place c.in_default.ensures.none

pub returns-then-c-eq10-clause-leaf : goal.returns-then-c-eq10-clause-leaf
returns-then-c-eq10-clause-leaf c = cr_lf_at c.args.text.now c.args.place c.in-Some.c c.in-Some.ensures.some c.if-c-eq10.true

pub returns-clause-leaf : goal.returns-clause-leaf
returns-clause-leaf c = cr_before c.args.text.now c.args.place c.in-Some.c _ c.in-Some.ensures.some c.if-c-eq10.false
