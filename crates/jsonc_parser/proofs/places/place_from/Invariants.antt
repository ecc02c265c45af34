use Rattle.std.proofs.Common.{chars, length}
use Rattle.jsonc_parser.specs.Places.{units}
use Rattle.jsonc_parser.proofs.LineWalk.{HasWalked}
use Rattle.jsonc_parser.proofs.places.place_from.Given as goal

abbrev pub invariant-loop-here : goal.invariant-loop-here
invariant-loop-here l = HasWalked (units l.unit) (chars l.text) (chars l.rest.rest.now) l.target.line l.target.column l.here.line l.here.column

abbrev pub decreases-loop-here : goal.decreases-loop-here
decreases-loop-here l = length l.rest.rest.now
