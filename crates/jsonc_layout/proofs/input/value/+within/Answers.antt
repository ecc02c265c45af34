use Rattle.std.proofs.Common.{◌≡◌, ◌≤◌, ◌↔◌, ◌∙◌, false, true, arith, ap, refl, subst, sym}
use Rattle.jsonc_text.specs.Plain.{around, members_around}
use Rattle.jsonc_layout.specs.input.Views.{plain, members_plain}
use Rattle.jsonc_layout.proofs.lemmas.input.ValueLevels.{part_smaller, plain-Object}
use Rattle.jsonc_layout.proofs.lemmas.input.Depths.{all_within, element_deep, items_most, members_most, none_within, property_deep, told_beyond, told_within}
use Rattle.jsonc_layout.proofs.input.value.+within.Goals as goal

pub CstInputValue::is_within-returns-in-Object : goal.CstInputValue::is_within-returns-in-Object
CstInputValue::is_within-returns-in-Object g t c =
    let same = ap (λ ps. members_around (members_plain ps)) c.as_slice-in-Object.ensures.value ∙ sym (ap around (ap plain c.in-Object.is ∙ plain-Object c.in-Object.properties)) in
    subst (λ n. (c.properties_are_within.result ≡ true) ↔ n ≤ c.args.limit) same c.properties_are_within.ensures

pub depth::elements_are_within-returns-then-limit-lt1 :
    goal.depth::elements_are_within-returns-then-limit-lt1
depth::elements_are_within-returns-then-limit-lt1 g t c =
    subst (λ n. (c.is_empty.result ≡ true) ↔ n ≤ c.args.limit) (sym (items_most c.args.elements.now))
    (none_within element_deep c.args.limit 1 (λ x. omega arith) c.if-limit-lt1.true c.args.elements.now c.is_empty.result c.is_empty.ensures)

pub depth::elements_are_within-returns-then-not-is_within :
    goal.depth::elements_are_within-returns-then-not-is_within
depth::elements_are_within-returns-then-not-is_within g t c =
    subst (λ n. (false ≡ true) ↔ n ≤ c.args.limit) (sym (items_most c.args.elements.now))
    (told_beyond element_deep c.args.limit 1 (around (plain c.element-item.result)) c.args.elements.now c.loop-element.element-index c.element-item.result c.is_within.result (omega arith) c.loop-element-test.true c.element-item.is c.is_within.ensures c.if-not-is_within.true)

pub depth::elements_are_within-loop-element-preserved :
    goal.depth::elements_are_within-loop-element-preserved
depth::elements_are_within-loop-element-preserved g t c =
    told_within element_deep c.args.limit 1 (around (plain c.element-item.result)) c.args.elements.now c.loop-element.element-index c.element-item.result c.is_within.result (omega arith) c.if-limit-lt1.false c.loop-element-test.true c.element-item.is c.is_within.ensures c.if-not-is_within.false c.loop-element.invariant

pub depth::elements_are_within-returns : goal.depth::elements_are_within-returns
depth::elements_are_within-returns g t c = (
  λ so. subst (λ n. n ≤ c.args.limit) (sym (items_most c.args.elements.now)) (all_within element_deep c.args.limit c.args.elements.now c.loop-element.element-index c.loop-element-test.false c.loop-element.invariant),
  λ h. refl,
)

pub depth::properties_are_within-returns-then-limit-lt2 :
    goal.depth::properties_are_within-returns-then-limit-lt2
depth::properties_are_within-returns-then-limit-lt2 g t c =
    subst (λ n. (c.is_empty.result ≡ true) ↔ n ≤ c.args.limit) (sym (members_most c.args.properties.now))
    (none_within property_deep c.args.limit 2 (λ x. omega arith) c.if-limit-lt2.true c.args.properties.now c.is_empty.result c.is_empty.ensures)

pub depth::properties_are_within-is_within-requires :
    goal.depth::properties_are_within-is_within-requires
depth::properties_are_within-is_within-requires g t c κs within =
    (part_smaller _ _ c.loop-property.property-index c.property-item.result _ t c.decreases c.loop-property-test.true c.property-item.is (omega arith), within)

pub depth::properties_are_within-returns-then-not-is_within :
    goal.depth::properties_are_within-returns-then-not-is_within
depth::properties_are_within-returns-then-not-is_within g t c =
    subst (λ n. (false ≡ true) ↔ n ≤ c.args.limit) (sym (members_most c.args.properties.now))
    (told_beyond property_deep c.args.limit 2 (around (plain c.property-item.result.1)) c.args.properties.now c.loop-property.property-index c.property-item.result c.is_within.result (omega arith) c.loop-property-test.true c.property-item.is c.is_within.ensures c.if-not-is_within.true)

pub depth::properties_are_within-loop-property-preserved :
    goal.depth::properties_are_within-loop-property-preserved
depth::properties_are_within-loop-property-preserved g t c =
    told_within property_deep c.args.limit 2 (around (plain c.property-item.result.1)) c.args.properties.now c.loop-property.property-index c.property-item.result c.is_within.result (omega arith) c.if-limit-lt2.false c.loop-property-test.true c.property-item.is c.is_within.ensures c.if-not-is_within.false c.loop-property.invariant

pub depth::properties_are_within-returns : goal.depth::properties_are_within-returns
depth::properties_are_within-returns g t c = (
  λ so. subst (λ n. n ≤ c.args.limit) (sym (members_most c.args.properties.now)) (all_within property_deep c.args.limit c.args.properties.now c.loop-property.property-index c.loop-property-test.false c.loop-property.invariant),
  λ h. refl,
)
