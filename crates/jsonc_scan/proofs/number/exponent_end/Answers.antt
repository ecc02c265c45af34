use Rattle.std.proofs.Common.{refl}
use Rattle.jsonc_scan.proofs.NumberParts.{no_exponent, exponent_digits, exponent_signed}
use Rattle.jsonc_scan.proofs.NumberFaults.{broken_after_sign, broken_after_e, exponent_told, no_broken_exponent}
use Rattle.jsonc_scan.proofs.number.exponent_end.Goals as goal

pub returns-then-not-has_either-clause-found : goal.returns-then-not-has_either-clause-found
returns-then-not-has_either-clause-found c = no_exponent _ _ c.requires (c.if-not-has_either.ensures.other refl)

pub returns-in-Some-clause-found : goal.returns-in-Some-clause-found
returns-in-Some-clause-found c =
    exponent_signed _ _ _ (c.if-not-has_either.ensures.here refl) (c.if-has_either.ensures.here refl) c.in-Some.ensures.found

pub returns-in-Some-some_digits_end-clause-found : goal.returns-in-Some-some_digits_end-clause-found
returns-in-Some-some_digits_end-clause-found c =
    exponent_digits _ _ _ (c.if-not-has_either.ensures.here refl) c.in-Some-some_digits_end.ensures.found

pub returns-in-None-clause-none : goal.returns-in-None-clause-none
returns-in-None-clause-none c =
    no_broken_exponent c.args.text.now c.args.start (broken_after_sign _ _ (c.if-not-has_either.ensures.here refl) (c.if-has_either.ensures.here refl) c.in-None.ensures.none)

pub returns-in-None-clause-error : goal.returns-in-None-clause-error
returns-in-None-clause-error c =
    exponent_told _ _ _ _ _ (broken_after_sign _ _ (c.if-not-has_either.ensures.here refl) (c.if-has_either.ensures.here refl) c.in-None.ensures.none) c.fault_at.ensures.kind c.fault_at.ensures.next

pub returns-in-None-some_digits_end-clause-none : goal.returns-in-None-some_digits_end-clause-none
returns-in-None-some_digits_end-clause-none c =
    no_broken_exponent c.args.text.now c.args.start (broken_after_e _ _ (c.if-not-has_either.ensures.here refl) (c.if-has_either.ensures.other refl) c.in-None-some_digits_end.ensures.none)

pub returns-in-None-some_digits_end-clause-error : goal.returns-in-None-some_digits_end-clause-error
returns-in-None-some_digits_end-clause-error c =
    exponent_told _ _ _ _ _ (broken_after_e _ _ (c.if-not-has_either.ensures.here refl) (c.if-has_either.ensures.other refl) c.in-None-some_digits_end.ensures.none) c.fault_at-in-None-some_digits_end.ensures.kind c.fault_at-in-None-some_digits_end.ensures.next
