use Rattle.std.proofs.Common.{◌∙◌, ap, arith, chars, sym}
use Rattle.std.specs.Cow.{cow_str_bytes}
use Rattle.jsonc_text.specs.Plain.{array, object}
use Rattle.jsonc_walk.specs.Located.{items_at}
use Rattle.jsonc_ast.specs.Views.{items_located}
use Rattle.jsonc_ast.specs.Views as ast
use Rattle.jsonc_ast.proofs.Copies.{size-member}
use Rattle.jsonc_layout.proofs.lemmas.input.ValueLevels as levels
use Rattle.jsonc_layout.specs.input.Views as input
use Rattle.jsonc_layout.specs.input.Views.{named, plain}
use Rattle.jsonc_parser.specs.patch.Equality.{HasUniqueNames}
use Rattle.jsonc_parser.specs.patch.PatchReading.{pair_of, said}
use Rattle.jsonc_parser.proofs.lemmas.patch.PatchValues.{all_hold, all_taken, array_unique, fault_in_element, fault_in_member, fault_moved, fault_of_names, items_said, items_unique, leaf_unique_boolean, leaf_unique_null, leaf_unique_number, leaf_unique_string, members_said, members_unique, object_unique, one_holds, one_taken, plain-Array, plain-BooleanLit, plain-NullKeyword, plain-NumberLit, plain-Object, plain-StringLit}
use Rattle.jsonc_parser.proofs.patch.values.+values.Goals as goal

pub elements_of-returns-in-Err-clause-fault : goal.elements_of-returns-in-Err-clause-fault
elements_of-returns-in-Err-clause-fault g t c =
    fault_in_element c.args.values.now c.loop-value.value-index c.value-item.result c.in-Err.fault c.loop-value-test.true c.value-item.is c.in-Err.ensures.fault

pub elements_of-loop-value-preserved : goal.elements_of-loop-value-preserved
elements_of-loop-value-preserved g t c = record {
  values = one_taken plain ast.plain c.args.values.now c.loop-value.elements.items c.push.new.self.items c.loop-value.value-index c.value-item.result c.in-Ok.element
      c.loop-value.invariant.values c.loop-value-test.true c.value-item.is c.in-Ok.ensures.value c.in-Ok-push.ensures.items;
  unique = one_holds (λ v. HasUniqueNames (ast.plain v)) c.args.values.now c.loop-value.value-index c.value-item.result c.loop-value.invariant.unique c.loop-value-test.true c.value-item.is c.in-Ok.ensures.unique;
}

pub elements_of-returns-clause-value : goal.elements_of-returns-clause-value
elements_of-returns-clause-value g t c =
    ap input.items_of (all_taken plain ast.plain c.args.values.now c.loop-value.elements.items c.loop-value.value-index c.loop-value.invariant.values c.loop-value-test.false) ∙ sym (items_said c.args.values.now)

pub elements_of-returns-clause-unique : goal.elements_of-returns-clause-unique
elements_of-returns-clause-unique g t c =
    items_unique c.args.values.now (all_hold (λ v. HasUniqueNames (ast.plain v)) c.args.values.now c.loop-value.value-index c.loop-value.invariant.unique c.loop-value-test.false)

pub members_of-returns-in-Err-clause-fault : goal.members_of-returns-in-Err-clause-fault
members_of-returns-in-Err-clause-fault g t c = fault_of_names (said c.args.properties.now) c.in-Err.fault c.in-Err.ensures.repeated

pub members_of-member_of-requires : goal.members_of-member_of-requires
members_of-member_of-requires g t c κs within =
    (omega (arith, c.decreases, size-member g.row.A.Denot c.args.properties.now c.loop-property.property-index c.property-item.result c.loop-property-test.true c.property-item.is), within)

pub members_of-returns-in-Err-member_of-clause-fault : goal.members_of-returns-in-Err-member_of-clause-fault
members_of-returns-in-Err-member_of-clause-fault g t c =
    fault_in_member c.args.properties.now c.loop-property.property-index c.property-item.result c.in-Err-member_of.fault c.loop-property-test.true c.property-item.is c.in-Err-member_of.ensures.fault

pub members_of-loop-property-preserved : goal.members_of-loop-property-preserved
members_of-loop-property-preserved g t c = record {
  values = one_taken named pair_of c.args.properties.now c.loop-property.members.items c.push.new.self.items c.loop-property.property-index c.property-item.result c.in-Ok.member
      c.loop-property.invariant.values c.loop-property-test.true c.property-item.is c.in-Ok.ensures.value c.in-Ok-push.ensures.items;
  unique = one_holds (λ p. HasUniqueNames (ast.plain p.value)) c.args.properties.now c.loop-property.property-index c.property-item.result c.loop-property.invariant.unique c.loop-property-test.true c.property-item.is
      c.in-Ok.ensures.unique;
}

pub members_of-returns-clause-value : goal.members_of-returns-clause-value
members_of-returns-clause-value g t c =
    members_said c.loop-property.members.items c.args.properties.now
    (all_taken named pair_of c.args.properties.now c.loop-property.members.items c.loop-property.property-index c.loop-property.invariant.values c.loop-property-test.false)

pub members_of-returns-clause-unique : goal.members_of-returns-clause-unique
members_of-returns-clause-unique g t c =
    members_unique c.args.properties.now c.in_default.ensures.differ
    (all_hold (λ p. HasUniqueNames (ast.plain p.value)) c.args.properties.now c.loop-property.property-index c.loop-property.invariant.unique c.loop-property-test.false)

pub value_of-returns-in-NullKeyword-clause-unique : goal.value_of-returns-in-NullKeyword-clause-unique
value_of-returns-in-NullKeyword-clause-unique g t c =
    leaf_unique_null c.args.value.now (ap ast.plain c.in-NullKeyword.is ∙ plain-NullKeyword g.row.A.Denot c.in-NullKeyword.field-0)

pub value_of-returns-in-BooleanLit-clause-unique : goal.value_of-returns-in-BooleanLit-clause-unique
value_of-returns-in-BooleanLit-clause-unique g t c =
    leaf_unique_boolean c.args.value.now c.in-BooleanLit.boolean.value (ap ast.plain c.in-BooleanLit.is ∙ plain-BooleanLit g.row.A.Denot c.in-BooleanLit.boolean)

pub value_of-returns-in-Ok-clause-unique : goal.value_of-returns-in-Ok-clause-unique
value_of-returns-in-Ok-clause-unique g t c =
    leaf_unique_number c.args.value.now (chars c.in-NumberLit.number.value.now) (ap ast.plain c.in-NumberLit.is ∙ plain-NumberLit g.row.A.Denot c.in-NumberLit.number)

pub value_of-returns-in-Ok-owned-clause-unique : goal.value_of-returns-in-Ok-owned-clause-unique
value_of-returns-in-Ok-owned-clause-unique g t c =
    leaf_unique_string c.args.value.now (chars (cow_str_bytes c.in-StringLit.string.value)) (ap ast.plain c.in-StringLit.is ∙ plain-StringLit c.in-StringLit.string)

pub value_of-returns-in-Ok-elements_of-clause-value : goal.value_of-returns-in-Ok-elements_of-clause-value
value_of-returns-in-Ok-elements_of-clause-value g t c =
    levels.plain-Array c.in-Ok-elements_of.elements ∙ ap array (c.in-Ok-elements_of.ensures.value ∙ ap (λ vs. items_at (items_located vs)) c.as_slice.ensures.value) ∙ sym (plain-Array c.in-Array.array) ∙ ap ast.plain (sym c.in-Array.is)

pub value_of-returns-in-Ok-elements_of-clause-unique : goal.value_of-returns-in-Ok-elements_of-clause-unique
value_of-returns-in-Ok-elements_of-clause-unique g t c =
    array_unique c.args.value.now (items_at (items_located c.as_slice.result.now))
    (ap ast.plain c.in-Array.is ∙ plain-Array c.in-Array.array ∙ ap (λ vs. array (items_at (items_located vs))) (sym c.as_slice.ensures.value)) c.in-Ok-elements_of.ensures.unique

pub value_of-returns-in-Err-elements_of-clause-fault : goal.value_of-returns-in-Err-elements_of-clause-fault
value_of-returns-in-Err-elements_of-clause-fault g t c =
    fault_moved c.args.value.now (array (items_at (items_located c.as_slice.result.now))) c.in-Err-elements_of.fault
    (ap ast.plain c.in-Array.is ∙ plain-Array c.in-Array.array ∙ ap (λ vs. array (items_at (items_located vs))) (sym c.as_slice.ensures.value)) c.in-Err-elements_of.ensures.fault

pub value_of-returns-in-Ok-members_of-clause-value : goal.value_of-returns-in-Ok-members_of-clause-value
value_of-returns-in-Ok-members_of-clause-value g t c =
    levels.plain-Object c.in-Ok-members_of.members ∙ ap object (c.in-Ok-members_of.ensures.value ∙ ap said c.as_slice-in-Object.ensures.value) ∙ sym (plain-Object c.in-Object.object) ∙ ap ast.plain (sym c.in-Object.is)

pub value_of-returns-in-Ok-members_of-clause-unique : goal.value_of-returns-in-Ok-members_of-clause-unique
value_of-returns-in-Ok-members_of-clause-unique g t c =
    object_unique c.args.value.now (said c.as_slice-in-Object.result.now)
    (ap ast.plain c.in-Object.is ∙ plain-Object c.in-Object.object ∙ ap (λ ps. object (said ps)) (sym c.as_slice-in-Object.ensures.value)) c.in-Ok-members_of.ensures.unique

pub value_of-returns-in-Err-members_of-clause-fault : goal.value_of-returns-in-Err-members_of-clause-fault
value_of-returns-in-Err-members_of-clause-fault g t c =
    fault_moved c.args.value.now (object (said c.as_slice-in-Object.result.now)) c.in-Err-members_of.fault
    (ap ast.plain c.in-Object.is ∙ plain-Object c.in-Object.object ∙ ap (λ ps. object (said ps)) (sym c.as_slice-in-Object.ensures.value)) c.in-Err-members_of.ensures.fault
