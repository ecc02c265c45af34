use Rattle.std.proofs.Common.{◌≡◌, length}
use Rattle.std.specs.Vec.Iter.{into_iter_items, into_iter_len}
use Rattle.jsonc_lint.proofs.Moves.{HasAdded}
use Rattle.jsonc_lint.proofs.whole.add_in_text.Given as goal

-- the findings before those that are left are added
abbrev pub invariant-loop-finding : goal.invariant-loop-finding
invariant-loop-finding g l = HasAdded l.lines l.mends l.fn.found.items (into_iter_items l.finding-iterator) l.fn.findings.items l.findings.items
    × (into_iter_len l.finding-iterator ≡ length (into_iter_items l.finding-iterator))
