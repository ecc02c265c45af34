use Rattle.jsonc_scan.proofs.NumberParts.{decimal, no_exponent}
use Rattle.jsonc_scan.proofs.NoNumbers.{err_any, decimal_without_fraction, decimal_without_exponent}
use Rattle.std.proofs.Common.{refl}
use Rattle.jsonc_scan.proofs.NumberFaults.{err_of, fraction_told, decimal_exponent_told}
use Rattle.jsonc_scan.specs.Refusals.{IsNumberFault}
use Rattle.jsonc_text.specs.OptionsOf.{parse_options}
use Rattle.jsonc_scan.proofs.number.decimal_end.Goals as goal

pub returns-then-not-has_either-clause-found : goal.returns-then-not-has_either-clause-found
returns-then-not-has_either-clause-found c =
    let fraction = c.in_ok-fraction.ensures.found in
    decimal _ _ _ _ _ _ c.requires.whole fraction (no_exponent _ _ fraction.boundary (c.if-not-has_either.ensures.other refl))

pub returns-clause-found : goal.returns-clause-found
returns-clause-found c = decimal _ _ _ _ _ _ c.requires.whole c.in_ok-fraction.ensures.found c.in_ok-end.ensures.found

pub returns-in_err-fraction-clause-none : goal.returns-in_err-fraction-clause-none
returns-in_err-fraction-clause-none c =
    err_any c.from_residual.result (decimal_without_fraction _ _ _ _ c.requires.whole c.in_err-fraction.ensures.none)

pub returns-in_err-end-clause-none : goal.returns-in_err-end-clause-none
returns-in_err-end-clause-none c =
    err_any c.from_residual-in_err-end.result (decimal_without_exponent _ _ _ _ _ c.requires.whole c.in_ok-fraction.ensures.found c.in_err-end.ensures.none)

pub returns-in_err-fraction-clause-error : goal.returns-in_err-fraction-clause-error
returns-in_err-fraction-clause-error c =
    let e = c.in_err-fraction.field-0.0 in
    let refused = c.in_err-fraction.ensures in
    err_of (IsNumberFault (parse_options c.args.options.now) c.args.text.now c.args.number c.args.start) e c.from_residual.result c.from_residual.ensures.1 (λ s n. fraction_told _ _ _ _ _ e c.requires.whole refused.lacks refused.error s)

pub returns-in_err-end-clause-error : goal.returns-in_err-end-clause-error
returns-in_err-end-clause-error c =
    let e = c.in_err-end.field-0.0 in
    err_of (IsNumberFault (parse_options c.args.options.now) c.args.text.now c.args.number c.args.start) e c.from_residual-in_err-end.result c.from_residual-in_err-end.ensures.1 (λ s n. decimal_exponent_told _ _ _ _ _ _ e c.requires.whole c.in_ok-fraction.ensures.found c.in_err-end.ensures.error s)
