use Rattle.std.proofs.Common.{arith}
use Rattle.jsonc_diff.proofs.Shown.{shown_all, shown_on}
use Rattle.jsonc_diff.proofs.hunks.hunks_of.Goals as goal

pub loop-passed-preserved : goal.loop-passed-preserved
loop-passed-preserved g c = record {
  within = omega (arith, c.split_at.ensures.back_len, c.in_ok-place.ensures.within);
  old = c.in_ok-place.ensures.old;
  new = c.in_ok-place.ensures.new;
  shown = shown_on c.loop-passed.place _ c.args.steps.now c.split_at.result.1.now _ _ c.split_at.ensures.back c.in_ok-place.ensures.steps c.in_ok-place.ensures.shown c.loop-passed.invariant.shown;
}

pub returns-in_default : goal.returns-in_default
returns-in_default g c = shown_all c.loop-passed.place c.args.steps.now c.split_at.result.1.now _ c.split_at.ensures.back c.in_default.ensures.none c.loop-passed.invariant.shown
