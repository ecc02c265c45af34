use Rattle.std.proofs.Common.{All, take}
use Rattle.jsonc_layout.specs.input.Views.{plain}
use Rattle.jsonc_parser.specs.patch.Equality.{HasUniqueNames}
use Rattle.jsonc_parser.proofs.patch.unique.+unique.Given as goal

abbrev pub invariant-see_elements-loop-element : goal.invariant-see_elements-loop-element
invariant-see_elements-loop-element g l = All (λ v. HasUniqueNames (plain v)) (take l.element-index l.elements)

abbrev pub invariant-see_members-loop-member : goal.invariant-see_members-loop-member
invariant-see_members-loop-member g l = All (λ p. HasUniqueNames (plain p.1)) (take l.member-index l.members)
