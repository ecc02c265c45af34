use Rattle.std.proofs.Common.{◌-◌, chars, length, IsCharBoundary}
use Rattle.jsonc_text.specs.Text.{rest}
use Rattle.jsonc_parser.specs.Places.{units}
use Rattle.jsonc_parser.proofs.LineWalk.{WalksTo}
use Rattle.jsonc_parser.proofs.places.walk_to.Given as goal

abbrev pub invariant-loop-reached : goal.invariant-loop-reached
invariant-loop-reached l = record { boundary : IsCharBoundary l.text l.reached.place; walks : WalksTo (units l.unit) (chars l.text) (rest l.text l.reached.place) (rest l.text l.place) l.reached.at.line l.reached.at.column }

abbrev pub decreases-loop-reached : goal.decreases-loop-reached
decreases-loop-reached l = length l.text - l.reached.place
