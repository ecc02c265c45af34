use Rattle.std.proofs.Common.{refl, arith}
use Rattle.jsonc_text.proofs.lemmas.string.Escapes.{high_no_backslash, high_no_u, high_no_digits, high_no_low, low_left, pair_found, span_on, unit_on}
use Rattle.std.proofs.Common.{◌+◌}
use Rattle.jsonc_text.proofs.lemmas.string.Faults.{lacks_backslash, lacks_second, lacks_u, told_four, told_high, told_other}
use Rattle.jsonc_text.proofs.string.escape.read_pair.Goals as goal

pub returns-then-not-has_byte-clause-none : goal.returns-then-not-has_byte-clause-none
returns-then-not-has_byte-clause-none c = high_no_backslash _ _ _ _ c.requires.first c.requires.high (c.if-not-has_byte.ensures.other refl)

pub returns-then-not-has_byte-2-clause-none : goal.returns-then-not-has_byte-2-clause-none
returns-then-not-has_byte-2-clause-none c =
    high_no_u _ _ _ _ _ c.requires.first c.requires.high (c.if-not-has_byte.ensures.here refl) (omega arith) (c.if-not-has_byte-2.ensures.other refl)

pub returns-in-Err-clause-none : goal.returns-in-Err-clause-none
returns-in-Err-clause-none c = high_no_digits _ _ _ _ c.requires.first c.requires.high c.in-Err.ensures.none

pub string_fault-requires-then-low-clause-spans : goal.string_fault-requires-then-low-clause-spans
string_fault-requires-then-low-clause-spans c = span_on _ _ _ _ c.requires.boundary c.in-Ok.ensures.last (omega arith) (omega arith)

pub returns-then-low-clause-none : goal.returns-then-low-clause-none
returns-then-low-clause-none c = high_no_low _ _ _ _ _ _ c.requires.first c.requires.high c.in-Ok.ensures.found c.if-low.true

pub returns-clause-found : goal.returns-clause-found
returns-clause-found c =
    pair_found _ _ _ _ _ _ _ c.requires.first c.requires.high (unit_on _ _ _ _ _ c.in-Ok.ensures.found (omega arith)) (low_left c.in-Ok.low.value c.if-low.false) c.pair.ensures

pub returns-then-not-has_byte-clause-error : goal.returns-then-not-has_byte-clause-error
returns-then-not-has_byte-clause-error c =
    let read = c.string_fault.ensures in
    told_high c.args.text.now _ _ (c.args.place + 6) (c.args.place + 6) c.args.high.value _ read.start read.end read.kind c.requires.digits c.requires.high (lacks_backslash c.args.text.now (c.args.place + 6) (c.if-not-has_byte.ensures.other refl))

pub returns-then-not-has_byte-2-clause-error : goal.returns-then-not-has_byte-2-clause-error
returns-then-not-has_byte-2-clause-error c =
    let read = c.string_fault-then-not-has_byte-2.ensures in
    let lacks = lacks_u c.args.text.now (c.args.place + 6) (c.args.place + 7) (c.if-not-has_byte.ensures.here refl) (omega arith) (c.if-not-has_byte-2.ensures.other refl) in
    told_high c.args.text.now _ _ (c.args.place + 6) (c.args.place + 7) c.args.high.value _ read.start read.end read.kind c.requires.digits c.requires.high lacks

pub returns-in-Err-clause-error : goal.returns-in-Err-clause-error
returns-in-Err-clause-error c =
    let read = c.string_fault-in-Err.ensures in
    let lacks = lacks_second c.args.text.now c.args.place (c.args.place + 6) (c.args.place + 7) (c.args.place + 6 + 2) c.args.high.value c.requires.high c.requires.digits (c.if-not-has_byte.ensures.here refl) (omega arith) (c.if-not-has_byte-2.ensures.here refl) (omega arith) c.in-Err.ensures.few in
    told_four c.args.text.now _ c.in-Err.stop _ read.start read.end read.kind lacks

pub returns-then-low-clause-error : goal.returns-then-low-clause-error
returns-then-low-clause-error c =
    let read = c.string_fault-then-low.ensures in
    told_other c.args.text.now _ _ _ (c.args.place + 6) (c.args.place + 6 + 6) (c.args.place + 6 + 5) (c.args.place + 11) c.args.high.value c.in-Ok.low.value _ read.start read.end read.kind c.requires.digits c.requires.high c.in-Ok.ensures.digits c.if-low.true c.in-Ok.ensures.through (omega arith)
