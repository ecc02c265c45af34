use Rattle.std.proofs.Common.{refl}
use Rattle.std.proofs.lemmas.Result.{IfErr-weaker}
use Rattle.jsonc_scan.proofs.NumberParts.{after_minus, after_plus, unsigned, ok_map}
use Rattle.jsonc_scan.proofs.NoNumbers.{minus_without_number, plus_without_number, plus_refused, without_sign}
use Rattle.jsonc_scan.proofs.NumberFaults.{minus_sign, plus_sign, plus_told}
use Rattle.jsonc_scan.proofs.number.number_end.Goals as goal

pub returns-then-has_byte-clause-found : goal.returns-then-has_byte-clause-found
returns-then-has_byte-clause-found c =
    ok_map c.signed_end.result (λ x. after_minus _ _ _ x (c.if-has_byte.ensures.here refl)) c.signed_end.ensures.found

pub returns-then-has_byte-clause-none : goal.returns-then-has_byte-clause-none
returns-then-has_byte-clause-none c =
    IfErr-weaker c.signed_end.result _ _ (λ e n names. minus_without_number _ _ _ (c.if-has_byte.ensures.here refl) n) c.signed_end.ensures.none

pub returns-then-not-has_byte-clause-found : goal.returns-then-not-has_byte-clause-found
returns-then-not-has_byte-clause-found c = ok_map c.finite_end.result (λ x. unsigned _ _ _ x) c.finite_end.ensures.found

pub returns-then-not-has_byte-clause-none : goal.returns-then-not-has_byte-clause-none
returns-then-not-has_byte-clause-none c =
    IfErr-weaker c.finite_end.result _ _ (λ e n names. without_sign _ c.args.text.now c.args.start (c.if-has_byte.ensures.other refl) (c.if-not-has_byte.ensures.other refl) (n names)) c.finite_end.ensures.none

pub returns-then-options-clause-found : goal.returns-then-options-clause-found
returns-then-options-clause-found c =
    ok_map c.signed_end-then-options.result (λ x. after_plus _ _ _ x (c.if-not-has_byte.ensures.here refl) c.if-options.true) c.signed_end-then-options.ensures.found

pub returns-then-options-clause-none : goal.returns-then-options-clause-none
returns-then-options-clause-none c =
    IfErr-weaker c.signed_end-then-options.result _ _ (λ e n names. plus_without_number _ _ _ (c.if-not-has_byte.ensures.here refl) n) c.signed_end-then-options.ensures.none

pub returns-clause-none : goal.returns-clause-none
returns-clause-none c = λ names. plus_refused _ c.args.text.now c.args.start (c.if-not-has_byte.ensures.here refl) c.if-options.false

pub returns-then-has_byte-clause-error : goal.returns-then-has_byte-clause-error
returns-then-has_byte-clause-error c =
    IfErr-weaker c.signed_end.result _ _ (λ e n begins. n (minus_sign _ _ _ (c.if-has_byte.ensures.here refl))) c.signed_end.ensures.error

pub returns-then-options-clause-error : goal.returns-then-options-clause-error
returns-then-options-clause-error c =
    IfErr-weaker
    c.signed_end-then-options.result
    _
    _
    (λ e n begins. n (plus_sign _ _ _ c.if-options.true (c.if-not-has_byte.ensures.here refl)))
    c.signed_end-then-options.ensures.error

pub returns-clause-error : goal.returns-clause-error
returns-clause-error c = λ begins. plus_told _ _ _ _ c.if-options.false (c.if-not-has_byte.ensures.here refl) c.fault.ensures.error
