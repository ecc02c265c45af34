use Rattle.std.proofs.Common.{◌+◌, sym, arith}
use Rattle.jsonc_text.proofs.Lines.{walks_line, walks_column}
use Rattle.jsonc_mend.proofs.KnownPlaces.{walks_from, known_from, ends_there}
use Rattle.jsonc_mend.proofs.places.walk_on.Goals as goal

pub loop-c-init : goal.loop-c-init
loop-c-init c = walks_from c.args.text.now c.args.from c.utf8.text c.requires

pub loop-c-preserved-then-ends_line : goal.loop-c-preserved-then-ends_line
loop-c-preserved-then-ends_line c =
    let step = rw (sym c.len_utf8-place.ensures.value) at c.in-Some.ensures in
    walks_line _ _ _ _ _ _ _ c.loop-c.invariant step (omega (arith, c.len_utf8-place.ensures.lower_bound)) (ends_there c.in-Some.c c.args.text.now c.range_from.result.now (c.loop-c.place + c.len_utf8-place.result) _ _ c.range_from.ensures.value c.ends_line.ensures c.if-ends_line.true)

pub loop-c-preserved : goal.loop-c-preserved
loop-c-preserved c =
    let step = rw (sym c.len_utf8-place.ensures.value) at c.in-Some.ensures in
    walks_column _ _ _ _ _ _ _ c.loop-c.invariant step (omega (arith, c.len_utf8-place.ensures.lower_bound)) (ends_there c.in-Some.c c.args.text.now c.range_from.result.now (c.loop-c.place + c.len_utf8-place.result) _ _ c.range_from.ensures.value c.ends_line.ensures c.if-ends_line.false)

pub returns : goal.returns
returns c = known_from c.args.text.now _ c.utf8.text c.loop-c.invariant
