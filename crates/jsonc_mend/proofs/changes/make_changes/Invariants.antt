use Rattle.std.proofs.Common.{chars, take, IsCharBoundary}
use Rattle.jsonc_mend.specs.Changes.{IsMade}
use Rattle.jsonc_mend.proofs.changes.make_changes.Given as goal

abbrev pub invariant-loop-proposal : goal.invariant-loop-proposal
invariant-loop-proposal g l =
    record {
      place : IsCharBoundary l.text l.from;
      made : IsMade (chars (take l.from l.text)) l.changed;
    }
