use Rattle.std.proofs.Common.{◌-◌, ◌+◌, ◌≤◌, length}
use Rattle.jsonc_text.proofs.lemmas.string.Passing.{Passing}
use Rattle.jsonc_text.proofs.string.pass.pass_escaped.Given as goal

abbrev pub invariant-loop-place : goal.invariant-loop-place
invariant-loop-place l = record {
  past : l.first_stop ≤ l.place;
  passing : Passing l.literal.extended l.literal.quote l.text (l.literal.start + 1) l.place;
}

abbrev pub decreases-loop-place : goal.decreases-loop-place
decreases-loop-place l = length l.text - l.place
