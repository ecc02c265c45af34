use Rattle.std.proofs.Common.{arith}
use Rattle.jsonc_diff.proofs.Shown.{old_counted, new_counted}
use Rattle.jsonc_diff.proofs.hunks.counts.Goals as goal

pub loop-step-preserved : goal.loop-step-preserved
loop-step-preserved c = record {
  old = old_counted c.args.steps.now c.loop-step.step-index c.loop-step.old _ _ _ c.loop-step-test.true c.counts_of-in_old.ensures.old c.loop-step.invariant.old;
  new = new_counted c.args.steps.now c.loop-step.step-index c.loop-step.new _ _ _ c.loop-step-test.true c.counts_of-in_old.ensures.new c.loop-step.invariant.new;
  old_within = omega (arith, c.loop-step.invariant.old_within, c.counts_of-in_old.ensures.old_within);
  new_within = omega (arith, c.loop-step.invariant.new_within, c.counts_of-in_old.ensures.new_within);
}
