use Rattle.std.proofs.Common.{◌≡◌, ◌-◌, length, take, chars}
use Rattle.jsonc_text.specs.Plain.{Members}
use Rattle.jsonc_view.specs.Lists.{pairs_of}
use Rattle.jsonc_view.specs.Shown.{ShowsMembers}
use Rattle.jsonc_view.specs.Views.{last_named}
use Rattle.jsonc_view.proofs.view.object.place_of.Given as goal

-- the last of the name is before those that were passed
abbrev pub invariant-loop-behind : goal.invariant-loop-behind
invariant-loop-behind g l = (ms : Members) → ShowsMembers l.rows l.members ms → last_named (chars l.name) (take (length l.members - l.behind) (pairs_of ms)) ≡ last_named (chars l.name) (pairs_of ms)
