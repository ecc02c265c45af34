use Rattle.std.proofs.Common.{◌∙◌, sym, ap, map, arith}
use denote.Param.Weighed.{most}
use Rattle.jsonc_ast.specs.Views.{located, member_of}
use Rattle.jsonc_ast.specs.Copies.{quotes, quotes_in_property}
use Rattle.jsonc_ast.specs.declared.ast.Value.{size-Value}
use Rattle.jsonc_ast.specs.declared.ast.ObjectProp.{size-ObjectProp}
use Rattle.jsonc_ast.proofs.Copies.{located-Array, located-Object, quotes-Array, quotes-Object, none_copied, one_copied, all_copied, not_empty, array_copied, array_quotes_copied, object_copied, object_quotes_copied, property_copied, property_quotes_copied, string_copied, string_quotes_copied, size-in-array, size-of-array, size-in-object, size-of-object, size-in-property, size-element, size-member}
use Rattle.jsonc_walk.proofs.lemmas.Refusals.{on_err}
use Rattle.jsonc_ast.proofs.ast.+copy.Goals as goal

pub Array::try_clone-copy_elements-requires :
    goal.Array::try_clone-copy_elements-requires
Array::try_clone-copy_elements-requires g t c κs within =
    (omega (arith, size-in-array g.row.A.Denot c.args.self.now, ap (λ xs. most (λ x. size-Value g.row.A.Denot x) xs) c.as_slice.ensures.value), within)

pub Array::try_clone-returns-clause-value :
    goal.Array::try_clone-returns-clause-value
Array::try_clone-returns-clause-value g t c =
    array_copied c.args.self.now c.in_ok-copies.copies (c.in_ok-copies.ensures.values ∙ ap (map located) c.as_slice.ensures.value)

pub Array::try_clone-returns-clause-quotes :
    goal.Array::try_clone-returns-clause-quotes
Array::try_clone-returns-clause-quotes g t c =
    array_quotes_copied c.args.self.now c.in_ok-copies.copies (c.in_ok-copies.ensures.quotes ∙ ap (map quotes) c.as_slice.ensures.value)

pub Object::try_clone-copy_properties-requires :
    goal.Object::try_clone-copy_properties-requires
Object::try_clone-copy_properties-requires g t c κs within =
    (omega (arith, size-in-object g.row.A.Denot c.args.self.now, ap (λ xs. most (λ x. size-ObjectProp g.row.A.Denot x) xs) c.as_slice.ensures.value), within)

pub Object::try_clone-returns-clause-value :
    goal.Object::try_clone-returns-clause-value
Object::try_clone-returns-clause-value g t c =
    object_copied c.args.self.now c.in_ok-copies.copies (c.in_ok-copies.ensures.values ∙ ap (map member_of) c.as_slice.ensures.value)

pub Object::try_clone-returns-clause-quotes :
    goal.Object::try_clone-returns-clause-quotes
Object::try_clone-returns-clause-quotes g t c =
    object_quotes_copied c.args.self.now c.in_ok-copies.copies (c.in_ok-copies.ensures.quotes ∙ ap (map quotes_in_property) c.as_slice.ensures.value)

pub ObjectProp::try_clone-try_clone-requires-2 :
    goal.ObjectProp::try_clone-try_clone-requires-2
ObjectProp::try_clone-try_clone-requires-2 g t c κs within =
    (omega (arith, size-in-property g.row.A.Denot c.args.self.now), within)

pub ObjectProp::try_clone-returns-clause-value :
    goal.ObjectProp::try_clone-returns-clause-value
ObjectProp::try_clone-returns-clause-value g t c =
    property_copied c.args.self.now c.in_ok-name.name c.in_ok-value.value c.in_ok-name.ensures.name c.in_ok-value.ensures.value

pub ObjectProp::try_clone-returns-clause-quotes :
    goal.ObjectProp::try_clone-returns-clause-quotes
ObjectProp::try_clone-returns-clause-quotes g t c =
    property_quotes_copied c.args.self.now c.in_ok-name.name c.in_ok-value.value c.in_ok-name.ensures.quotes c.in_ok-value.ensures.quotes

pub Value::try_clone-try_clone-requires-in-Array :
    goal.Value::try_clone-try_clone-requires-in-Array
Value::try_clone-try_clone-requires-in-Array g t c κs within =
    (omega (arith, size-of-array g.row.A.Denot c.in-Array.array, ap (λ x. size-Value g.row.A.Denot x) c.in-Array.is), within)

pub Value::try_clone-try_clone-requires-in-Object :
    goal.Value::try_clone-try_clone-requires-in-Object
Value::try_clone-try_clone-requires-in-Object g t c κs within =
    (omega (arith, size-of-object g.row.A.Denot c.in-Object.object, ap (λ x. size-Value g.row.A.Denot x) c.in-Object.is), within)

pub Value::try_clone-returns-in_ok-try_clone-in-StringLit-clause-value :
    goal.Value::try_clone-returns-in_ok-try_clone-in-StringLit-clause-value
Value::try_clone-returns-in_ok-try_clone-in-StringLit-clause-value g t c =
    string_copied c.in-StringLit.string c.in_ok-try_clone-in-StringLit.field-0 c.in_ok-try_clone-in-StringLit.ensures.range c.in_ok-try_clone-in-StringLit.ensures.text ∙ ap located (sym c.in-StringLit.is)

pub Value::try_clone-returns-in_ok-try_clone-in-StringLit-clause-quotes :
    goal.Value::try_clone-returns-in_ok-try_clone-in-StringLit-clause-quotes
Value::try_clone-returns-in_ok-try_clone-in-StringLit-clause-quotes g t c =
    string_quotes_copied c.in-StringLit.string c.in_ok-try_clone-in-StringLit.field-0 ∙ ap quotes (sym c.in-StringLit.is)

pub Value::try_clone-returns-in-NumberLit-clause-value :
    goal.Value::try_clone-returns-in-NumberLit-clause-value
Value::try_clone-returns-in-NumberLit-clause-value g t c =
    ap located (sym c.in-NumberLit.is)

pub Value::try_clone-returns-in-NumberLit-clause-quotes :
    goal.Value::try_clone-returns-in-NumberLit-clause-quotes
Value::try_clone-returns-in-NumberLit-clause-quotes g t c =
    ap quotes (sym c.in-NumberLit.is)

pub Value::try_clone-returns-in-BooleanLit-clause-value :
    goal.Value::try_clone-returns-in-BooleanLit-clause-value
Value::try_clone-returns-in-BooleanLit-clause-value g t c =
    ap located (sym c.in-BooleanLit.is)

pub Value::try_clone-returns-in-BooleanLit-clause-quotes :
    goal.Value::try_clone-returns-in-BooleanLit-clause-quotes
Value::try_clone-returns-in-BooleanLit-clause-quotes g t c =
    ap quotes (sym c.in-BooleanLit.is)

pub Value::try_clone-returns-in-NullKeyword-clause-value :
    goal.Value::try_clone-returns-in-NullKeyword-clause-value
Value::try_clone-returns-in-NullKeyword-clause-value g t c =
    ap located (sym c.in-NullKeyword.is)

pub Value::try_clone-returns-in-NullKeyword-clause-quotes :
    goal.Value::try_clone-returns-in-NullKeyword-clause-quotes
Value::try_clone-returns-in-NullKeyword-clause-quotes g t c =
    ap quotes (sym c.in-NullKeyword.is)

pub Value::try_clone-returns-in_ok-try_clone-in-Object-clause-value :
    goal.Value::try_clone-returns-in_ok-try_clone-in-Object-clause-value
Value::try_clone-returns-in_ok-try_clone-in-Object-clause-value g t c =
    located-Object c.in_ok-try_clone-in-Object.field-0 ∙ c.in_ok-try_clone-in-Object.ensures.value ∙ sym (located-Object c.in-Object.object) ∙ ap located (sym c.in-Object.is)

pub Value::try_clone-returns-in_ok-try_clone-in-Object-clause-quotes :
    goal.Value::try_clone-returns-in_ok-try_clone-in-Object-clause-quotes
Value::try_clone-returns-in_ok-try_clone-in-Object-clause-quotes g t c =
    quotes-Object c.in_ok-try_clone-in-Object.field-0 ∙ c.in_ok-try_clone-in-Object.ensures.quotes ∙ sym (quotes-Object c.in-Object.object) ∙ ap quotes (sym c.in-Object.is)

pub Value::try_clone-returns-in_ok-try_clone-in-Array-clause-value :
    goal.Value::try_clone-returns-in_ok-try_clone-in-Array-clause-value
Value::try_clone-returns-in_ok-try_clone-in-Array-clause-value g t c =
    located-Array c.in_ok-try_clone-in-Array.field-0 ∙ c.in_ok-try_clone-in-Array.ensures.value ∙ sym (located-Array c.in-Array.array) ∙ ap located (sym c.in-Array.is)

pub Value::try_clone-returns-in_ok-try_clone-in-Array-clause-quotes :
    goal.Value::try_clone-returns-in_ok-try_clone-in-Array-clause-quotes
Value::try_clone-returns-in_ok-try_clone-in-Array-clause-quotes g t c =
    quotes-Array c.in_ok-try_clone-in-Array.field-0 ∙ c.in_ok-try_clone-in-Array.ensures.quotes ∙ sym (quotes-Array c.in-Array.array) ∙ ap quotes (sym c.in-Array.is)

pub copies::copy_elements-loop-value-preserved : goal.copies::copy_elements-loop-value-preserved
copies::copy_elements-loop-value-preserved g t c =
    one_copied located quotes c.args.values.now c.loop-value.copies.items c.push.new.self.items c.loop-value.value-index c.value-item.result c.in_ok-try_clone.field-0
    c.loop-value.invariant c.loop-value-test.true c.value-item.is c.in_ok-try_clone.ensures.value c.in_ok-try_clone.ensures.quotes c.in_ok-push.ensures.items

pub copies::copy_properties-loop-property-preserved : goal.copies::copy_properties-loop-property-preserved
copies::copy_properties-loop-property-preserved g t c =
    one_copied member_of quotes_in_property c.args.properties.now c.loop-property.copies.items c.push.new.self.items c.loop-property.property-index c.property-item.result c.in_ok-try_clone.field-0
    c.loop-property.invariant c.loop-property-test.true c.property-item.is c.in_ok-try_clone.ensures.value c.in_ok-try_clone.ensures.quotes c.in_ok-push.ensures.items

pub copies::copy_elements-loop-value-init :
    goal.copies::copy_elements-loop-value-init
copies::copy_elements-loop-value-init g t c =
    none_copied located quotes c.args.values.now c.in_ok-copies.copies.items c.in_ok-copies.ensures.items

pub copies::copy_elements-try_clone-requires :
    goal.copies::copy_elements-try_clone-requires
copies::copy_elements-try_clone-requires g t c κs within =
    (omega (arith, size-element g.row.A.Denot c.args.values.now c.loop-value.value-index c.value-item.result c.loop-value-test.true c.value-item.is), within)

pub copies::copy_elements-loop-value-smaller :
    goal.copies::copy_elements-loop-value-smaller
copies::copy_elements-loop-value-smaller g t c =
    omega (arith, c.loop-value-test.true)

pub copies::copy_elements-returns-clause-values :
    goal.copies::copy_elements-returns-clause-values
copies::copy_elements-returns-clause-values g t c =
    all_copied located c.args.values.now c.loop-value.copies.items c.loop-value.value-index c.loop-value-test.false c.loop-value.invariant.values

pub copies::copy_elements-returns-clause-quotes :
    goal.copies::copy_elements-returns-clause-quotes
copies::copy_elements-returns-clause-quotes g t c =
    all_copied quotes c.args.values.now c.loop-value.copies.items c.loop-value.value-index c.loop-value-test.false c.loop-value.invariant.quotes

pub copies::copy_properties-loop-property-init :
    goal.copies::copy_properties-loop-property-init
copies::copy_properties-loop-property-init g t c =
    none_copied member_of quotes_in_property c.args.properties.now c.in_ok-copies.copies.items c.in_ok-copies.ensures.items

pub copies::copy_properties-try_clone-requires :
    goal.copies::copy_properties-try_clone-requires
copies::copy_properties-try_clone-requires g t c κs within =
    (omega (arith, size-member g.row.A.Denot c.args.properties.now c.loop-property.property-index c.property-item.result c.loop-property-test.true c.property-item.is), within)

pub copies::copy_properties-loop-property-smaller :
    goal.copies::copy_properties-loop-property-smaller
copies::copy_properties-loop-property-smaller g t c =
    omega (arith, c.loop-property-test.true)

pub copies::copy_properties-returns-clause-values :
    goal.copies::copy_properties-returns-clause-values
copies::copy_properties-returns-clause-values g t c =
    all_copied member_of c.args.properties.now c.loop-property.copies.items c.loop-property.property-index c.loop-property-test.false c.loop-property.invariant.values

pub copies::copy_properties-returns-clause-quotes :
    goal.copies::copy_properties-returns-clause-quotes
copies::copy_properties-returns-clause-quotes g t c =
    all_copied quotes_in_property c.args.properties.now c.loop-property.copies.items c.loop-property.property-index c.loop-property-test.false c.loop-property.invariant.quotes

pub copies::copy_properties-returns-in_err-try_clone-clause-memory : goal.copies::copy_properties-returns-in_err-try_clone-clause-memory
copies::copy_properties-returns-in_err-try_clone-clause-memory g t c =
    on_err c.from_residual-in_err-try_clone.result (not_empty c.args.properties.now c.loop-property.property-index c.loop-property-test.true)

pub copies::copy_properties-returns-in_err-push-clause-memory : goal.copies::copy_properties-returns-in_err-push-clause-memory
copies::copy_properties-returns-in_err-push-clause-memory g t c =
    on_err c.from_residual-in_err-push.result (not_empty c.args.properties.now c.loop-property.property-index c.loop-property-test.true)
