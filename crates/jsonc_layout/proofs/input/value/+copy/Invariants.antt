use Rattle.std.proofs.Common.{◌≡◌, map, take}
use Rattle.jsonc_layout.specs.input.Views.{plain, named}
use Rattle.jsonc_layout.proofs.input.value.+copy.Given as goal

abbrev pub invariant-copies::copy_elements-loop-element : goal.invariant-copies::copy_elements-loop-element
invariant-copies::copy_elements-loop-element g l = map plain l.copies.items ≡ map plain (take l.element-index l.elements)

abbrev pub invariant-copies::copy_properties-loop-property : goal.invariant-copies::copy_properties-loop-property
invariant-copies::copy_properties-loop-property g l = map named l.copies.items ≡ map named (take l.property-index l.properties)
