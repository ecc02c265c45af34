use Rattle.jsonc_layout.specs.input.Views.{items_plain, members_plain}
use Rattle.jsonc_parser.specs.patch.Equality.{ItemsHaveUniqueNames, MembersHaveUniqueNames}
use Rattle.jsonc_parser.specs.patch.Comparing.{same_by}
use Rattle.jsonc_parser.proofs.lemmas.patch.Equality.{AreMembersTold, AreTold}
use Rattle.jsonc_parser.proofs.patch.equality.+equality.Given as goal

abbrev pub invariant-are_elements_equal-loop-index : goal.invariant-are_elements_equal-loop-index
invariant-are_elements_equal-loop-index g l = ItemsHaveUniqueNames (items_plain l.right) → AreTold (same_by l.numbers) l.left l.right l.index

abbrev pub invariant-are_members_equal-loop-member : goal.invariant-are_members_equal-loop-member
invariant-are_members_equal-loop-member g l = MembersHaveUniqueNames (members_plain l.right) → AreMembersTold (same_by l.numbers) l.left l.right l.member-index
