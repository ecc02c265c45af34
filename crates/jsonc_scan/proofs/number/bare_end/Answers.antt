use Rattle.std.proofs.Common.{refl}
use Rattle.jsonc_scan.proofs.NumberParts.{bare_decimal}
use Rattle.jsonc_scan.proofs.NoNumbers.{err_any, without_point, point_without_digits, point_refused, point_without_exponent}
use Rattle.jsonc_scan.proofs.NumberFaults.{err_of, no_digits, no_digits_after_point, sign_told, bare_exponent_told, signed_point_told, point_told}
use Rattle.jsonc_scan.specs.Refusals.{IsNumberFault}
use Rattle.jsonc_text.specs.OptionsOf.{parse_options}
use Rattle.jsonc_scan.proofs.number.bare_end.Goals as goal

pub returns-then-not-has_byte-clause-none : goal.returns-then-not-has_byte-clause-none
returns-then-not-has_byte-clause-none c = without_point _ c.args.text.now c.args.start c.requires.digit (c.if-not-has_byte.ensures.other refl)

pub returns-in_default-clause-none : goal.returns-in_default-clause-none
returns-in_default-clause-none c = point_without_digits _ c.args.text.now c.args.start c.requires.digit (c.if-not-has_byte.ensures.here refl) c.in_default.ensures.none

pub returns-then-options-clause-found : goal.returns-then-options-clause-found
returns-then-options-clause-found c =
    bare_decimal _ _ _ _ _ (c.if-not-has_byte.ensures.here refl) c.in-Some.ensures.found c.in_ok-end.ensures.found c.if-options.true

pub returns-in_err-end-clause-none : goal.returns-in_err-end-clause-none
returns-in_err-end-clause-none c =
    err_any c.from_residual.result (point_without_exponent _ _ _ _ c.requires.digit (c.if-not-has_byte.ensures.here refl) c.in-Some.ensures.found c.in_err-end.ensures.none)

pub returns-then-number-start-clause-none : goal.returns-then-number-start-clause-none
returns-then-number-start-clause-none c = point_refused _ c.args.text.now c.args.start c.requires.digit c.if-options.false

pub returns-clause-none : goal.returns-clause-none
returns-clause-none c = point_refused _ c.args.text.now c.args.start c.requires.digit c.if-options.false

pub returns-then-not-has_byte-clause-error : goal.returns-then-not-has_byte-clause-error
returns-then-not-has_byte-clause-error c =
    sign_told _ c.args.text.now _ c.args.start _ (no_digits c.args.text.now c.args.start c.requires.digit (c.if-not-has_byte.ensures.other refl)) c.fault_at.ensures.kind c.fault_at.ensures.next

pub returns-in_default-clause-error : goal.returns-in_default-clause-error
returns-in_default-clause-error c =
    sign_told _ c.args.text.now _ c.args.start _ (no_digits_after_point _ _ (c.if-not-has_byte.ensures.here refl) c.in_default.ensures.none) c.fault_at-in_default.ensures.kind c.fault_at-in_default.ensures.next

pub returns-in_err-end-clause-error : goal.returns-in_err-end-clause-error
returns-in_err-end-clause-error c =
    let e = c.in_err-end.field-0.0 in
    err_of (IsNumberFault (parse_options c.args.options.now) c.args.text.now c.args.number c.args.start) e c.from_residual.result c.from_residual.ensures.1 (λ s n. bare_exponent_told _ _ _ _ _ e c.if-options.true (c.if-not-has_byte.ensures.here refl) c.in-Some.ensures.found c.in_err-end.ensures.error s)

pub returns-then-number-start-clause-error : goal.returns-then-number-start-clause-error
returns-then-number-start-clause-error c = λ s n.
    signed_point_told _ _ _ _ _ _ c.if-options.false c.if-number-start.true (c.if-not-has_byte.ensures.here refl) c.in-Some.ensures.found c.fault.ensures.error s

pub returns-clause-error : goal.returns-clause-error
returns-clause-error c = λ s n.
    point_told _ _ _ _ _ _ c.if-options.false c.if-number-start.false (c.if-not-has_byte.ensures.here refl) c.in-Some.ensures.found c.fault_at-2.ensures.kind c.fault_at-2.ensures.next s
