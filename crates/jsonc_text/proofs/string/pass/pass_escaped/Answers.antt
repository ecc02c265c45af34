use Rattle.std.proofs.Common.{arith, refl, subst, sym}
use Rattle.jsonc_text.proofs.lemmas.string.Faults.{told_unclosed}
use Rattle.jsonc_text.proofs.lemmas.string.Passing.{passing_start, passing_more, read_passing, passed_quoted, no_escape_passed, no_close_passed}
use Rattle.jsonc_text.specs.string.Escapes.{IsEscape}
use Rattle.jsonc_text.proofs.string.pass.pass_escaped.Goals as goal
use Rattle.jsonc_text.proofs.string.pass.pass_escaped.Goals.{in-Some, in-None+in-Ok}

pub loop-place-init : goal.loop-place-init
loop-place-init c = record { past = omega arith; passing = passing_start _ _ _ _ _ c.requires.run c.requires.backslash }

pub returns-in-Err-clause-none : goal.returns-in-Err-clause-none
returns-in-Err-clause-none c =
    no_escape_passed _ _ _ _ _ c.requires.quote c.requires.opens c.loop-place.invariant.passing (c.loop-place-test.ensures.here refl) c.in-Err.ensures.none

pub returns-in-Err-clause-error : goal.returns-in-Err-clause-error
returns-in-Err-clause-error c = c.in-Err.ensures.error (read_passing _ _ _ _ _ c.requires.quote c.requires.opens c.loop-place.invariant.passing)

pub loop-place-preserved : goal.loop-place-preserved
loop-place-preserved c =
    let next = c.stop_place-place.ensures in
    let literal = c.args.literal in
    let found : IsEscape literal.extended literal.quote c.args.text.now c.loop-place.place c.match-plain_escape.escape = elim c.match-plain_escape.branch [
      | in-Some w ↦ subst (IsEscape literal.extended literal.quote c.args.text.now c.loop-place.place) (sym w.escape-is) w.in-Some.ensures
      | in-None+in-Ok w ↦ subst (IsEscape literal.extended literal.quote c.args.text.now c.loop-place.place) (sym w.escape-is) w.in-Ok.ensures.found
    ] in
    record {
      past = omega (arith, c.loop-place.invariant.past, found.order, next.passed.order);
      passing = passing_more _ _ _ _ _ _ _ _ c.loop-place.invariant.passing found next.passed next.stops;
    }

pub returns-then-not-has_byte-clause-none : goal.returns-then-not-has_byte-clause-none
returns-then-not-has_byte-clause-none c =
    no_close_passed _ _ _ _ _ c.requires.quote c.requires.opens c.loop-place.invariant.passing (c.if-not-has_byte.ensures.other refl) (c.loop-place-test.ensures.other refl)

pub returns-then-not-has_byte-clause-error : goal.returns-then-not-has_byte-clause-error
returns-then-not-has_byte-clause-error c =
    let fault = c.unterminated.ensures in
    let read = read_passing _ _ _ _ _ c.requires.quote c.requires.opens c.loop-place.invariant.passing in
    told_unclosed _ _ _ _ _ _ fault.start fault.end fault.kind read c.loop-place.invariant.passing.stops (c.if-not-has_byte.ensures.other refl) (c.loop-place-test.ensures.other refl)

pub returns-clause-found : goal.returns-clause-found
returns-clause-found c =
    let past = c.loop-place.invariant.past in
    passed_quoted _ _ _ _ _ c.utf8.text c.requires.boundary c.requires.quote c.requires.opens c.loop-place.invariant.passing (omega (arith, c.requires.run.order, past)) (c.if-not-has_byte.ensures.here refl)
