use Rattle.std.proofs.Common.{arith}
use Rattle.jsonc_diff.proofs.Scripts.{same_more}
use Rattle.jsonc_diff.proofs.script.same_len.Goals as goal

pub loop-count-preserved : goal.loop-count-preserved
loop-count-preserved c =
    same_more c.args.old.now c.args.new.now c.loop-count.count _ _ (omega (arith, c.loop-count-test.true, c.min-shorter.ensures)) (omega (arith, c.loop-count-test.true, c.min-shorter.ensures)) c.loop-count.invariant
    (c.is_same.ensures c.if-not-is_same.false)
