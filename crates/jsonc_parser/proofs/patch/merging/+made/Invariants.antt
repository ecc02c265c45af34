use Rattle.std.proofs.Common.{◌≡◌, take}
use Rattle.jsonc_layout.specs.input.Views.{members_plain}
use Rattle.jsonc_parser.specs.patch.Merging.{members_made}
use Rattle.jsonc_parser.proofs.patch.merging.+made.Given as goal

abbrev pub invariant-made_members-loop-member : goal.invariant-made_members-loop-member
invariant-made_members-loop-member g l = members_plain l.made.items ≡ members_made (members_plain (take l.member-index l.members))
