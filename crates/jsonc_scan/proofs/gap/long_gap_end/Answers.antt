use Rattle.std.proofs.Common.{arith}
use Rattle.jsonc_text.specs.Gaps.{is_blank}
use Rattle.jsonc_text.proofs.CharRuns.{passes_none}
use Rattle.jsonc_text.proofs.CharacterSteps.{many_append}
use Rattle.jsonc_scan.proofs.Blanks.{narrow_sixteen, narrow_stop}
use Rattle.jsonc_scan.proofs.gap.long_gap_end.Goals as goal

pub loop-place-init : goal.loop-place-init
loop-place-init c = (c.as_bytes-bytes.ensures.value, passes_none is_blank _ _ c.requires)

pub blanks_end-requires : goal.blanks_end-requires
blanks_end-requires c =
    (narrow_stop _ _ _ _ _ c.as_bytes-bytes.ensures.value c.utf8.text c.loop-place.invariant.1 (omega (arith, c.loop-place-test.true)) c.blank_stops_in-others.ensures (omega (arith, c.if-others-ne0.true))).boundary

pub returns-then-others-ne0-clause-blanks : goal.returns-then-others-ne0-clause-blanks
returns-then-others-ne0-clause-blanks c =
    many_append (narrow_stop _ _ _ _ _ c.as_bytes-bytes.ensures.value c.utf8.text c.loop-place.invariant.1 (omega (arith, c.loop-place-test.true)) c.blank_stops_in-others.ensures (omega (arith, c.if-others-ne0.true))).many c.blanks_end.ensures.blanks

pub loop-place-preserved : goal.loop-place-preserved
loop-place-preserved c =
    let same = c.as_bytes-bytes.ensures.value in
    (same, narrow_sixteen _ _ _ _ _ same c.utf8.text c.loop-place.invariant.1 (omega (arith, c.loop-place-test.true)) c.blank_stops_in-others.ensures (omega (arith, c.if-others-ne0.false)))

pub returns-clause-blanks : goal.returns-clause-blanks
returns-clause-blanks c = many_append c.loop-place.invariant.1.many c.blanks_end-2.ensures.blanks
