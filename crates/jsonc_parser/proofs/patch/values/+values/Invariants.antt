use Rattle.std.proofs.Common.{◌≡◌, All, map, take}
use Rattle.jsonc_ast.specs.Views as ast
use Rattle.jsonc_layout.specs.input.Views.{named, plain}
use Rattle.jsonc_parser.specs.patch.Equality.{HasUniqueNames}
use Rattle.jsonc_parser.specs.patch.PatchReading.{pair_of}
use Rattle.jsonc_parser.proofs.patch.values.+values.Given as goal

abbrev pub invariant-elements_of-loop-value : goal.invariant-elements_of-loop-value
invariant-elements_of-loop-value g l = record {
  values : map plain l.elements.items ≡ map ast.plain (take l.value-index l.values);
  unique : All (λ v. HasUniqueNames (ast.plain v)) (take l.value-index l.values);
}

abbrev pub invariant-members_of-loop-property : goal.invariant-members_of-loop-property
invariant-members_of-loop-property g l = record {
  values : map named l.members.items ≡ map pair_of (take l.property-index l.properties);
  unique : All (λ p. HasUniqueNames (ast.plain p.value)) (take l.property-index l.properties);
}
