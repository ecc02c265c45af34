use Rattle.std.proofs.Common.{refl, ◌∙◌}
use Rattle.jsonc_diff.proofs.Scripts.{old_taken, new_taken, old_stays, new_stays, all_taken}
use Rattle.jsonc_diff.proofs.script.push_added.Goals as goal

pub loop-line-preserved : goal.loop-line-preserved
loop-line-preserved g c = record {
  old = rw (c.in_ok-push.ensures.items) (old_stays c.loop-line.steps.items _ refl ∙ c.loop-line.invariant.old);
  new = rw (c.in_ok-push.ensures.items) (new_taken c.loop-line.steps.items _ _ c.args.lines.now c.loop-line.line-index _ refl c.loop-line-test.true c.loop-line.invariant.new);
}

pub returns-clause-old : goal.returns-clause-old
returns-clause-old g c = c.loop-line.invariant.old

pub returns-clause-new : goal.returns-clause-new
returns-clause-new g c = all_taken _ _ c.args.lines.now c.loop-line.line-index c.loop-line-test.false c.loop-line.invariant.new
