use Rattle.std.proofs.Common.{arith, refl, subst, sym}
use Rattle.jsonc_text.proofs.lemmas.string.Decoding.{decoding_start, decoding_more, quoted_copy, no_escape, no_close}
use Rattle.jsonc_text.proofs.lemmas.string.Faults.{read_decoding, told_unclosed}
use Rattle.jsonc_text.specs.string.Escapes.{IsEscape}
use Rattle.jsonc_text.proofs.string.decode.decode_escaped.Goals as goal
use Rattle.jsonc_text.proofs.string.decode.decode_escaped.Goals.{in-Some, in-None+in-Ok-read_escape}

pub loop-escape-init : goal.loop-escape-init
loop-escape-init g c = record {
  past = omega arith;
  decoding = decoding_start _ _ _ _ _ _ c.requires.opens.1 c.in-Ok.ensures.bytes c.requires.run c.requires.backslash;
}

pub returns-in-Err-clause-none : goal.returns-in-Err-clause-none
returns-in-Err-clause-none g c = λ k.
    no_escape _ _ _ _ _ _ _ c.utf8.text c.requires.quote c.requires.opens c.loop-escape.invariant.decoding (c.loop-escape-test.ensures.here refl) c.in-Err.ensures.none

pub loop-escape-preserved : goal.loop-escape-preserved
loop-escape-preserved g c =
    let next = c.stop_place-place.ensures in
    let literal = c.args.literal in
    let escape = c.match-plain_escape.escape in
    let found : IsEscape literal.extended literal.quote c.args.text.now c.loop-escape.place escape = elim c.match-plain_escape.branch [
      | in-Some w ↦ subst (IsEscape literal.extended literal.quote c.args.text.now c.loop-escape.place) (sym w.escape-is) w.in-Some.ensures
      | in-None+in-Ok-read_escape w ↦ subst (IsEscape literal.extended literal.quote c.args.text.now c.loop-escape.place) (sym w.escape-is) w.in-Ok-read_escape.ensures.found
    ] in
    record {
      past = omega (arith, c.loop-escape.invariant.past, found.order, next.passed.order);
      decoding = decoding_more _ _ _ _ _ _ escape.character _ _ _ _ _ c.utf8.text c.loop-escape.invariant.decoding c.range.ensures.value found c.in-Ok-append.ensures next.passed next.stops;
    }

pub returns-then-not-has_byte-clause-none : goal.returns-then-not-has_byte-clause-none
returns-then-not-has_byte-clause-none g c = λ k.
    no_close _ _ _ _ _ _ _ c.utf8.text c.requires.quote c.requires.opens c.loop-escape.invariant.decoding (c.if-not-has_byte.ensures.other refl) (c.loop-escape-test.ensures.other refl)

pub returns-clause-found : goal.returns-clause-found
returns-clause-found g c =
    quoted_copy _ _ _ _ _ _ _ _ _ c.utf8.text c.requires.opens c.loop-escape.invariant.decoding c.range-2.ensures.value c.in-Ok-append-2.ensures (c.if-not-has_byte.ensures.here refl)

pub returns-clause-lent : goal.returns-clause-lent
returns-clause-lent g c =
    let d = c.loop-escape.invariant in
    record {
      copied = (λ b. record { place = c.args.first_stop; boundary = c.requires.run.boundary; after = omega (arith, c.requires.run.order); before = omega (arith, d.past); backslash = c.requires.backslash }, λ h. tt);
      slice = λ b. absurd b;
    }

pub returns-in-Err-clause-error : goal.returns-in-Err-clause-error
returns-in-Err-clause-error g c =
    c.in-Err.ensures.error (read_decoding _ _ _ _ _ _ _ c.utf8.text c.requires.quote c.requires.opens c.loop-escape.invariant.decoding)

pub returns-then-not-has_byte-clause-error : goal.returns-then-not-has_byte-clause-error
returns-then-not-has_byte-clause-error g c =
    let fault = c.unterminated.ensures in
    let read = read_decoding _ _ _ _ _ _ _ c.utf8.text c.requires.quote c.requires.opens c.loop-escape.invariant.decoding in
    told_unclosed _ _ _ _ _ _ fault.start fault.end fault.kind read c.loop-escape.invariant.decoding.stops (c.if-not-has_byte.ensures.other refl) (c.loop-escape-test.ensures.other refl)
