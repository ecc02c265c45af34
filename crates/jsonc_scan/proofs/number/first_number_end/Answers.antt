use Rattle.std.proofs.Common.{◌∙◌, ℕ, sym, subst, Option, IfNone}
use Rattle.std.proofs.lemmas.Str.{IsCharBoundary-start}
use Rattle.jsonc_text.specs.Numbers.{Number}
use Rattle.jsonc_text.specs.OptionsOf.{parse_options}
use Rattle.jsonc_text.specs.string.Between.{NoneFrom}
use Rattle.jsonc_scan.proofs.NoLexemes.{number_name, number_no_names}
use Rattle.jsonc_scan.proofs.Reading.{infinity_whole}
use Rattle.jsonc_scan.proofs.WholeNumbers.{is_off, nan_found, none_begins, none_found}
use Rattle.jsonc_scan.proofs.number.first_number_end.Goals as goal

pub begins_number-requires : goal.begins_number-requires
begins_number-requires c = IsCharBoundary-start _ c.utf8.text

pub number_end-requires : goal.number_end-requires
number_end-requires c = IsCharBoundary-start _ c.utf8.text

pub returns-then-begins_number-clause-none : goal.returns-then-begins_number-clause-none
returns-then-begins_number-clause-none c =
    let begins = sym c.begins_number.ensures ∙ c.if-begins_number.true in
    subst (λ (found : Option ℕ). IfNone found (NoneFrom (Number (parse_options c.args.options.now)) c.args.text.now 0)) (sym c.ok.ensures.value)
    (none_begins _ _ c.number_end.result (number_no_names c.args.text.now 0 begins) c.number_end.ensures.none)

pub returns-then-not-options-clause-none : goal.returns-then-not-options-clause-none
returns-then-not-options-clause-none c = λ r x.
    number_name (sym c.begins_number.ensures ∙ c.if-begins_number.false) (λ a. absurd (is_off _ c.if-not-options.true a)) (λ a. absurd (is_off _ c.if-not-options.true a)) x

pub whole_end-requires-clause-boundary : goal.whole_end-requires-clause-boundary
whole_end-requires-clause-boundary c = IsCharBoundary-start _ c.utf8.text

pub returns-in-Some-clause-found : goal.returns-in-Some-clause-found
returns-in-Some-clause-found c = infinity_whole _ _ _ c.in-Some.ensures.found (parse_options c.args.options.now) c.if-not-options.false

pub whole_end-requires-2-clause-boundary : goal.whole_end-requires-2-clause-boundary
whole_end-requires-2-clause-boundary c = IsCharBoundary-start _ c.utf8.text

pub returns-clause-found : goal.returns-clause-found
returns-clause-found c = nan_found _ _ _ _ c.if-not-options.false c.whole_end-2.ensures.found

pub returns-clause-none : goal.returns-clause-none
returns-clause-none c = none_found _ _ _ (sym c.begins_number.ensures ∙ c.if-begins_number.false) c.in_default.ensures.none c.whole_end-2.ensures.none
