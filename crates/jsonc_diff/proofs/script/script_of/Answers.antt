use Rattle.std.proofs.Common.{arith}
use Rattle.jsonc_diff.proofs.Scripts.{stretch}
use Rattle.jsonc_diff.proofs.script.script_of.Goals as goal

pub loop-olds-preserved : goal.loop-olds-preserved
loop-olds-preserved g c = record {
  old = stretch _ _ c.args.old.now c.split_at.result.1.now c.loop-olds.olds _ c.split_at.ensures.back c.in_ok-removed.ensures.old c.loop-olds.invariant.old;
  new = stretch _ _ c.args.new.now c.split_at-in-loop-olds.result.1.now c.loop-olds.news _ c.split_at-in-loop-olds.ensures.back c.in_ok-removed.ensures.new c.loop-olds.invariant.new;
  old_within = omega (arith, c.split_at.ensures.back_len, c.in_ok-removed.ensures.old_within);
  new_within = omega (arith, c.split_at-in-loop-olds.ensures.back_len, c.in_ok-removed.ensures.new_within);
}
