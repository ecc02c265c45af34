use Rattle.std.proofs.Common.{ap, arith}
use lib.Count.{count_trailing_zeros}
use Rattle.jsonc_text.proofs.LaneRuns.{neither_opposite, pass_sixteen, stop_in_lanes}
use Rattle.jsonc_text.proofs.runs.byte_stop.Goals as goal

pub returns-then-stops-ne0 : goal.returns-then-stops-ne0
returns-then-stops-ne0 c =
    let mask = c.stops_in-stops.ensures in
    stop_in_lanes 16 (omega arith) _ _ (neither_opposite _ _) _ _ _ _ c.loop-place.invariant (omega (arith, c.loop-place.invariant.within, c.loop-place-test.true)) (omega (arith, mask, c.if-stops-ne0.true)) (ap (count_trailing_zeros 64) mask)

pub loop-place-preserved : goal.loop-place-preserved
loop-place-preserved c =
    pass_sixteen _ _ (neither_opposite _ _) _ _ _ c.loop-place.invariant (omega (arith, c.loop-place.invariant.within, c.loop-place-test.true)) (omega (arith, c.stops_in-stops.ensures, c.if-stops-ne0.false))
