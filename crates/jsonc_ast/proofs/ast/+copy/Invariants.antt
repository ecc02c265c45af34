use Rattle.jsonc_ast.specs.Views.{located, member_of}
use Rattle.jsonc_ast.specs.Copies.{quotes, quotes_in_property}
use Rattle.jsonc_ast.proofs.Copies.{AreCopied}
use Rattle.jsonc_ast.proofs.ast.+copy.Given as goal

abbrev pub invariant-copies::copy_elements-loop-value : goal.invariant-copies::copy_elements-loop-value
invariant-copies::copy_elements-loop-value g l = AreCopied located quotes l.copies.items l.value-index l.values

abbrev pub invariant-copies::copy_properties-loop-property : goal.invariant-copies::copy_properties-loop-property
invariant-copies::copy_properties-loop-property g l = AreCopied member_of quotes_in_property l.copies.items l.property-index l.properties
