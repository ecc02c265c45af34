use Rattle.std.specs.List.{All}
use Rattle.jsonc_mend.specs.Places.{IsKnown}
use Rattle.jsonc_mend.proofs.places.known_places.Given as goal

abbrev pub invariant-loop-place : goal.invariant-loop-place
invariant-loop-place g l =
    record {
      last : IsKnown l.text l.last;
      known : All (IsKnown l.text) l.known.items;
    }
