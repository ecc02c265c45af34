use Rattle.std.proofs.Common.{ap, rules, [], chars}
use Rattle.std.proofs.lemmas.Str.{IsCharBoundary-start, chars-nil}
use Rattle.jsonc_format.proofs.LineEnds.{last_begun, last_more, last_whole, after_end}
use Rattle.jsonc_format.proofs.gaps.last_line.Goals as goal

pub stop_place-next-requires-clause-boundary : goal.stop_place-next-requires-clause-boundary
stop_place-next-requires-clause-boundary c = IsCharBoundary-start c.args.gap.now c.utf8.gap

pub loop-next-init : goal.loop-next-init
loop-next-init c = let e = c.stop_place-next.ensures in (search rules, last_begun c.args.gap.now [] c.stop_place-next.result e.passed.boundary e.passed.piece e.stops chars-nil)

pub range_from-line-requires : goal.range_from-line-requires
range_from-line-requires c = λ h. after_end c.args.gap.now c.loop-next.line.now c.loop-next.next c.utf8.gap c.loop-next-test.true c.loop-next.invariant.1

pub stop_place-next-requires-in-loop-next-clause-boundary : goal.stop_place-next-requires-in-loop-next-clause-boundary
stop_place-next-requires-in-loop-next-clause-boundary c = after_end c.args.gap.now c.loop-next.line.now c.loop-next.next c.utf8.gap c.loop-next-test.true c.loop-next.invariant.1

pub loop-next-preserved : goal.loop-next-preserved
loop-next-preserved c =
    let e = c.stop_place-next-in-loop-next.ensures in (
      search (rules, c.range_from-line.utf8),
      last_more c.args.gap.now c.loop-next.line.now c.range_from-line.result.now c.loop-next.next c.stop_place-next-in-loop-next.result c.utf8.gap c.loop-next-test.true c.loop-next.invariant.1 (ap chars c.range_from-line.ensures.value) e.passed.boundary e.passed.piece e.stops,
    )

pub returns : goal.returns
returns c = last_whole c.args.gap.now c.loop-next.line.now c.loop-next.next c.loop-next-test.false c.loop-next.invariant.1
