use Rattle.std.proofs.Common.{◌∙◌, ap, arith, refl, sym}
use Rattle.std.proofs.lemmas.Result.{IfErr-weaker, on_ok_weaker}
use Rattle.jsonc_text.specs.Plain.{array, boolean, null, number, object, string}
use Rattle.jsonc_layout.specs.input.Views.{chars_of, items_plain, members_plain, plain}
use Rattle.jsonc_layout.proofs.lemmas.input.ValueLevels.{part_smaller, plain-Array, plain-Number, plain-Object, plain-String}
use Rattle.jsonc_parser.specs.patch.Equality.{HasUniqueNames, unique_array, unique_boolean, unique_null, unique_number, unique_object, unique_string}
use Rattle.jsonc_parser.proofs.lemmas.patch.Equality.{plain-Bool, plain-Null}
use Rattle.jsonc_parser.proofs.lemmas.patch.MergeNames.{all_hold, items_unique, members_unique, one_holds, twice_in_element, twice_in_member, twice_of_names, twice_so, unique_so}
use Rattle.jsonc_parser.proofs.patch.unique.+unique.Goals as goal

pub see_elements-see_unique_names-requires : goal.see_elements-see_unique_names-requires
see_elements-see_unique_names-requires g t c κs within =
    (part_smaller _ _ c.loop-element.element-index c.element-item.result _ t c.decreases c.loop-element-test.true c.element-item.is (omega arith), within)

pub see_elements-returns-in-Err-clause-repeated : goal.see_elements-returns-in-Err-clause-repeated
see_elements-returns-in-Err-clause-repeated g t c =
    twice_in_element c.args.elements.now c.loop-element.element-index c.element-item.result c.in-Err.fault c.loop-element-test.true c.element-item.is c.in-Err.ensures.repeated

pub see_elements-loop-element-preserved : goal.see_elements-loop-element-preserved
see_elements-loop-element-preserved g t c =
    one_holds (λ v. HasUniqueNames (plain v)) c.args.elements.now c.loop-element.element-index c.element-item.result c.loop-element.invariant c.loop-element-test.true c.element-item.is c.in-Ok.ensures.unique

pub see_elements-returns-clause-unique : goal.see_elements-returns-clause-unique
see_elements-returns-clause-unique g t c =
    items_unique c.args.elements.now (all_hold (λ v. HasUniqueNames (plain v)) c.args.elements.now c.loop-element.element-index c.loop-element.invariant c.loop-element-test.false)

pub see_members-returns-in-Err-clause-repeated : goal.see_members-returns-in-Err-clause-repeated
see_members-returns-in-Err-clause-repeated g t c = twice_of_names (members_plain c.args.members.now) c.in-Err.fault c.in-Err.ensures.repeated

pub see_members-see_unique_names-requires : goal.see_members-see_unique_names-requires
see_members-see_unique_names-requires g t c κs within =
    (part_smaller _ _ c.loop-member.member-index c.member-item.result _ t c.decreases c.loop-member-test.true c.member-item.is (omega arith), within)

pub see_members-returns-in-Err-see_unique_names-clause-repeated : goal.see_members-returns-in-Err-see_unique_names-clause-repeated
see_members-returns-in-Err-see_unique_names-clause-repeated g t c =
    twice_in_member c.args.members.now c.loop-member.member-index c.member-item.result c.in-Err-see_unique_names.fault c.loop-member-test.true c.member-item.is c.in-Err-see_unique_names.ensures.repeated

pub see_members-loop-member-preserved : goal.see_members-loop-member-preserved
see_members-loop-member-preserved g t c =
    one_holds (λ p. HasUniqueNames (plain p.1)) c.args.members.now c.loop-member.member-index c.member-item.result c.loop-member.invariant c.loop-member-test.true c.member-item.is c.in-Ok.ensures.unique

pub see_members-returns-clause-unique : goal.see_members-returns-clause-unique
see_members-returns-clause-unique g t c =
    members_unique c.args.members.now c.in_default.ensures.differ
    (all_hold (λ p. HasUniqueNames (plain p.1)) c.args.members.now c.loop-member.member-index c.loop-member.invariant c.loop-member-test.false)

pub see_unique_names-returns-in-Null-clause-unique : goal.see_unique_names-returns-in-Null-clause-unique
see_unique_names-returns-in-Null-clause-unique g t c = unique_so c.args.value.now null (ap plain c.in-Null.is ∙ plain-Null g.row.A.Denot) unique_null

pub see_unique_names-returns-in-Bool-clause-unique : goal.see_unique_names-returns-in-Bool-clause-unique
see_unique_names-returns-in-Bool-clause-unique g t c = unique_so c.args.value.now (boolean c.in-Bool.field-0) (ap plain c.in-Bool.is ∙ plain-Bool g.row.A.Denot c.in-Bool.field-0) unique_boolean

pub see_unique_names-returns-in-Number-clause-unique : goal.see_unique_names-returns-in-Number-clause-unique
see_unique_names-returns-in-Number-clause-unique g t c = unique_so c.args.value.now (number (chars_of c.in-Number.field-0)) (ap plain c.in-Number.is ∙ plain-Number c.in-Number.field-0) unique_number

pub see_unique_names-returns-in-String-clause-unique : goal.see_unique_names-returns-in-String-clause-unique
see_unique_names-returns-in-String-clause-unique g t c = unique_so c.args.value.now (string (chars_of c.in-String.field-0)) (ap plain c.in-String.is ∙ plain-String c.in-String.field-0) unique_string

pub see_unique_names-returns-in-Array-clause-unique : goal.see_unique_names-returns-in-Array-clause-unique
see_unique_names-returns-in-Array-clause-unique g t c =
    let is = ap plain c.in-Array.is ∙ plain-Array c.in-Array.elements ∙ ap (λ vs. array (items_plain vs)) (sym c.as_slice.ensures.value) in
    on_ok_weaker c.see_elements.result (λ h. unique_so c.args.value.now (array (items_plain c.as_slice.result.now)) is (unique_array h)) c.see_elements.ensures.unique

pub see_unique_names-returns-in-Array-clause-repeated : goal.see_unique_names-returns-in-Array-clause-repeated
see_unique_names-returns-in-Array-clause-repeated g t c =
    let is = ap plain c.in-Array.is ∙ plain-Array c.in-Array.elements ∙ ap (λ vs. array (items_plain vs)) (sym c.as_slice.ensures.value) in
    IfErr-weaker c.see_elements.result _ _ (λ e h. twice_so c.args.value.now (array (items_plain c.as_slice.result.now)) e is h) c.see_elements.ensures.repeated

pub see_unique_names-returns-in-Object-clause-unique : goal.see_unique_names-returns-in-Object-clause-unique
see_unique_names-returns-in-Object-clause-unique g t c =
    let is = ap plain c.in-Object.is ∙ plain-Object c.in-Object.members ∙ ap (λ ps. object (members_plain ps)) (sym c.as_slice-in-Object.ensures.value) in
    on_ok_weaker c.see_members.result (λ h. unique_so c.args.value.now (object (members_plain c.as_slice-in-Object.result.now)) is (unique_object h)) c.see_members.ensures.unique

pub see_unique_names-returns-in-Object-clause-repeated : goal.see_unique_names-returns-in-Object-clause-repeated
see_unique_names-returns-in-Object-clause-repeated g t c =
    let is = ap plain c.in-Object.is ∙ plain-Object c.in-Object.members ∙ ap (λ ps. object (members_plain ps)) (sym c.as_slice-in-Object.ensures.value) in
    IfErr-weaker c.see_members.result _ _ (λ e h. twice_so c.args.value.now (object (members_plain c.as_slice-in-Object.result.now)) e is h) c.see_members.ensures.repeated
