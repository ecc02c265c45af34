use Rattle.std.proofs.Common.{arith}
use Rattle.jsonc_diff.proofs.Shown.{written_one}
use Rattle.jsonc_diff.proofs.hunks.push_steps.Goals as goal

pub loop-step-preserved : goal.loop-step-preserved
loop-step-preserved g c = written_one _ _ _ c.args.steps.now c.loop-step.step-index _ c.loop-step-test.true c.in_ok-push_step.ensures c.loop-step.invariant
