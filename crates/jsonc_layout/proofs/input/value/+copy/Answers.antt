use Rattle.std.proofs.Common.{arith, chars, ◌∙◌, sym, ap, map}
use Rattle.jsonc_text.specs.Plain.{array, number, object, string}
use Rattle.jsonc_layout.specs.input.Views.{plain, named, items_of}
use Rattle.jsonc_layout.proofs.lemmas.input.ValueLevels.{plain-Array, plain-Number, plain-Object, plain-String, same_members, part_smaller, one_copied, all_copied}
use Rattle.jsonc_layout.proofs.input.value.+copy.Goals as goal

pub CstInputValue::try_clone-returns-in_ok-copy_properties-in-Object-clause-value :
    goal.CstInputValue::try_clone-returns-in_ok-copy_properties-in-Object-clause-value
CstInputValue::try_clone-returns-in_ok-copy_properties-in-Object-clause-value g t c =
    let same = c.in_ok-copy_properties-in-Object.ensures.values ∙ ap (map named) c.as_slice-in-Object.ensures.value in
    plain-Object c.in_ok-copy_properties-in-Object.field-0 ∙ ap object (same_members _ _ same) ∙ sym (plain-Object c.in-Object.properties) ∙ ap plain (sym c.in-Object.is)

pub copies::copy_elements-loop-element-preserved :
    goal.copies::copy_elements-loop-element-preserved
copies::copy_elements-loop-element-preserved g t c =
    one_copied plain c.args.elements.now c.loop-element.copies.items c.push.new.self.items c.loop-element.element-index c.element-item.result c.in_ok-try_clone.field-0
    c.loop-element.invariant c.loop-element-test.true c.element-item.is c.in_ok-try_clone.ensures.value c.in_ok-push.ensures.items

pub copies::copy_properties-try_clone-requires : goal.copies::copy_properties-try_clone-requires
copies::copy_properties-try_clone-requires g t c κs within =
    (part_smaller _ _ c.loop-property.property-index c.property-item.result _ t c.decreases c.loop-property-test.true c.property-item.is (omega arith), within)

pub copies::copy_properties-loop-property-preserved :
    goal.copies::copy_properties-loop-property-preserved
copies::copy_properties-loop-property-preserved g t c =
    let name = c.in_ok-clone.ensures in
    let value = c.in_ok-try_clone.ensures.value in
    one_copied named c.args.properties.now c.loop-property.copies.items c.push.new.self.items c.loop-property.property-index c.property-item.result (c.in_ok-clone.field-0, c.in_ok-try_clone.field-0)
    c.loop-property.invariant c.loop-property-test.true c.property-item.is (λ i. (chars (name.cases i), value i)) c.in_ok-push.ensures.items

pub copies::copy_properties-returns-clause-values : goal.copies::copy_properties-returns-clause-values
copies::copy_properties-returns-clause-values g t c = all_copied named c.args.properties.now c.loop-property.copies.items c.loop-property.property-index c.loop-property.invariant c.loop-property-test.false

pub CstInputValue::try_clone-returns-in-Null-clause-value : goal.CstInputValue::try_clone-returns-in-Null-clause-value
CstInputValue::try_clone-returns-in-Null-clause-value g t c = ap plain (sym c.in-Null.is)

pub CstInputValue::try_clone-returns-in-Bool-clause-value : goal.CstInputValue::try_clone-returns-in-Bool-clause-value
CstInputValue::try_clone-returns-in-Bool-clause-value g t c = ap plain (sym c.in-Bool.is)

pub CstInputValue::try_clone-returns-in_ok-clone-in-Number-clause-value : goal.CstInputValue::try_clone-returns-in_ok-clone-in-Number-clause-value
CstInputValue::try_clone-returns-in_ok-clone-in-Number-clause-value g t c = plain-Number c.in_ok-clone-in-Number.field-0 ∙ ap (λ s. number (chars s)) c.in_ok-clone-in-Number.ensures.cases ∙ sym (plain-Number c.in-Number.text) ∙ ap plain (sym c.in-Number.is)

pub CstInputValue::try_clone-returns-in_ok-clone-in-String-clause-value : goal.CstInputValue::try_clone-returns-in_ok-clone-in-String-clause-value
CstInputValue::try_clone-returns-in_ok-clone-in-String-clause-value g t c = plain-String c.in_ok-clone-in-String.field-0 ∙ ap (λ s. string (chars s)) c.in_ok-clone-in-String.ensures.cases ∙ sym (plain-String c.in-String.text) ∙ ap plain (sym c.in-String.is)

pub CstInputValue::try_clone-returns-in_ok-copy_elements-in-Array-clause-value : goal.CstInputValue::try_clone-returns-in_ok-copy_elements-in-Array-clause-value
CstInputValue::try_clone-returns-in_ok-copy_elements-in-Array-clause-value g t c =
    let same = c.in_ok-copy_elements-in-Array.ensures.values ∙ ap (map plain) c.as_slice.ensures.value in
    plain-Array c.in_ok-copy_elements-in-Array.field-0 ∙ ap (λ vs. array (items_of vs)) same ∙ sym (plain-Array c.in-Array.elements) ∙ ap plain (sym c.in-Array.is)

pub copies::copy_elements-try_clone-requires : goal.copies::copy_elements-try_clone-requires
copies::copy_elements-try_clone-requires g t c κs within =
    (part_smaller _ _ c.loop-element.element-index c.element-item.result _ t c.decreases c.loop-element-test.true c.element-item.is (omega arith), within)

pub copies::copy_elements-returns-clause-values : goal.copies::copy_elements-returns-clause-values
copies::copy_elements-returns-clause-values g t c = all_copied plain c.args.elements.now c.loop-element.copies.items c.loop-element.element-index c.loop-element.invariant c.loop-element-test.false
