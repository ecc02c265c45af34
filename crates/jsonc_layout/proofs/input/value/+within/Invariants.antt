use Rattle.jsonc_layout.proofs.lemmas.input.Depths.{WithinFrom, element_deep, property_deep}
use Rattle.jsonc_layout.proofs.input.value.+within.Given as goal

abbrev pub invariant-depth::elements_are_within-loop-element : goal.invariant-depth::elements_are_within-loop-element
invariant-depth::elements_are_within-loop-element g l = WithinFrom element_deep l.limit l.elements l.element-index

abbrev pub invariant-depth::properties_are_within-loop-property : goal.invariant-depth::properties_are_within-loop-property
invariant-depth::properties_are_within-loop-property g l = WithinFrom property_deep l.limit l.properties l.property-index
