use Rattle.std.proofs.Common.{arith}
use Rattle.std.proofs.lemmas.Str.{IsCharBoundary-start}
use Rattle.jsonc_text.proofs.CharacterSteps.{rest_end}
use Rattle.jsonc_format.proofs.LineEnds.{no_first, first_both, first_feed, first_return}
use Rattle.jsonc_format.proofs.gaps.first_line_end.Goals as goal

pub stop_place-end-requires-clause-boundary : goal.stop_place-end-requires-clause-boundary
stop_place-end-requires-clause-boundary c = IsCharBoundary-start c.args.gap.now c.utf8.gap

pub returns-then-end-gap : goal.returns-then-end-gap
returns-then-end-gap c = let e = c.stop_place-end.ensures in
    no_first c.args.gap.now c.stop_place-end.result e.passed.piece (rest_end c.args.gap.now c.stop_place-end.result (omega (arith, c.if-end-gap.true)))

pub returns-then-not-has_byte : goal.returns-then-not-has_byte
returns-then-not-has_byte c = let e = c.stop_place-end.ensures in
    first_feed c.args.gap.now c.stop_place-end.result c.utf8.gap e.passed.boundary c.if-end-gap.false e.passed.piece e.stops (c.has_byte.ensures.other c.if-not-has_byte.true)

pub returns-then-has_byte : goal.returns-then-has_byte
returns-then-has_byte c = let e = c.stop_place-end.ensures in
    first_both c.args.gap.now c.stop_place-end.result e.passed.piece (c.has_byte.ensures.here c.if-not-has_byte.false) (c.has_byte-2.ensures.here c.if-has_byte.true)

pub returns : goal.returns
returns c = let e = c.stop_place-end.ensures in
    first_return c.args.gap.now c.stop_place-end.result e.passed.piece (c.has_byte.ensures.here c.if-not-has_byte.false) (c.has_byte-2.ensures.other c.if-has_byte.false)
