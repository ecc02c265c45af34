use Rattle.std.proofs.Common.{◌<◌, ◌++◌, ◌∙◌, [], append-nil, ap, append_assoc, arith, length, refl, sym, take}
use Rattle.std.proofs.KnownBytes.{Consumes-nil, Consumes-trans}
use Rattle.jsonc_engine.specs.Calls.{one_more}
use Rattle.jsonc_engine.proofs.Reading.{whole_at_end}
use Rattle.jsonc_engine.proofs.engine.read_on.Goals as goal

pub loop-done-init : goal.loop-done-init
loop-done-init g c = record {
  given = ([], Consumes-nil _, sym (append-nil _));
  kept = refl;
  none = refl;
  filled = omega arith;
  room = omega arith;
}

pub loop-done-preserved : goal.loop-done-preserved
loop-done-preserved g c =
    let so_far = c.loop-done.invariant.given in
    record {
      given = (
        so_far.0 ++ take c.in-Ok.count c.read.new.buffer,
        Consumes-trans _ _ _ _ _ so_far.1 c.in-Ok.ensures.bytes.0,
        c.in-Ok-extend_from_slice.ensures.items ∙ ap (λ l. l ++ take c.in-Ok.count c.read.new.buffer) so_far.2 ∙ append_assoc c.args.read.now.items so_far.0 (take c.in-Ok.count c.read.new.buffer),
      );
      kept = c.in-Ok.ensures.counted ∙ c.loop-done.invariant.kept;
      none = c.in-Ok.ensures.ended.1 c.if-count-eq0.false ∙ c.loop-done.invariant.none;
      filled = omega (arith, c.in-Ok-extend_from_slice.ensures.len, c.loop-done.invariant.filled, c.in-Ok.ensures.bound, c.if-count-eq0.false);
      room = omega (arith, c.in-Ok-extend_from_slice.ensures.capacity, c.loop-done.invariant.room);
    }

pub returns-in_default-clause-not_ended : goal.returns-in_default-clause-not_ended
returns-in_default-clause-not_ended g c = c.in_default.ensures.ended ∙ c.loop-done.invariant.none

pub returns-in_default-clause-failed : goal.returns-in_default-clause-failed
returns-in_default-clause-failed g c = λ _. c.in_default.ensures.counted ∙ ap one_more c.loop-done.invariant.kept

pub returns-then-count-eq0-clause-bytes : goal.returns-then-count-eq0-clause-bytes
returns-then-count-eq0-clause-bytes g c =
    let so_far = c.loop-done.invariant.given in
    let room : 0 < length c.read.new.buffer = omega arith in
    whole_at_end _ _ _ _ _ _ _ _ so_far.1 c.in-Ok.ensures.bytes.0 (c.in-Ok.ensures.bytes.1 c.if-count-eq0.true room) c.if-count-eq0.true so_far.2

pub returns-then-count-eq0-clause-ended : goal.returns-then-count-eq0-clause-ended
returns-then-count-eq0-clause-ended g c = c.in-Ok.ensures.ended.0 c.if-count-eq0.true ∙ ap one_more c.loop-done.invariant.none

pub returns-then-count-eq0-clause-kept : goal.returns-then-count-eq0-clause-kept
returns-then-count-eq0-clause-kept g c = λ _. c.in-Ok.ensures.counted ∙ c.loop-done.invariant.kept

pub returns-in_default-extend_from_slice-clause-not_ended : goal.returns-in_default-extend_from_slice-clause-not_ended
returns-in_default-extend_from_slice-clause-not_ended g c = c.in-Ok.ensures.ended.1 c.if-count-eq0.false ∙ c.loop-done.invariant.none

pub returns-in_default-extend_from_slice-clause-kept : goal.returns-in_default-extend_from_slice-clause-kept
returns-in_default-extend_from_slice-clause-kept g c = λ _. c.in-Ok.ensures.counted ∙ c.loop-done.invariant.kept

pub returns-in_default-extend_from_slice-clause-full : goal.returns-in_default-extend_from_slice-clause-full
returns-in_default-extend_from_slice-clause-full g c = λ _.
    omega (arith, c.in_default-extend_from_slice.ensures.full, c.in_default-extend_from_slice.ensures.len, c.loop-done.invariant.room, c.in-Ok.ensures.bound, c.read.auto.buffer, c.loop-done.auto.buffer)

pub returns-clause-not_ended : goal.returns-clause-not_ended
returns-clause-not_ended g c = c.loop-done.invariant.none

pub returns-clause-kept : goal.returns-clause-kept
returns-clause-kept g c = λ _. c.loop-done.invariant.kept

pub returns-clause-full : goal.returns-clause-full
returns-clause-full g c = λ _. absurd (omega arith)
