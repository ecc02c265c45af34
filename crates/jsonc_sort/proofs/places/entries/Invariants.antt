use Rattle.std.proofs.Common.{◌-◌, length}
use Rattle.jsonc_tree.specs.Tree.{content_at}
use Rattle.jsonc_sort.specs.Rearranged.{headers_of}
use Rattle.jsonc_sort.proofs.EntriesOfRows.{Entered}
use Rattle.jsonc_sort.proofs.places.entries.Given as goal

abbrev pub invariant-loop-entry : goal.invariant-loop-entry
invariant-loop-entry g l = Entered (content_at l.tree.nodes) (headers_of l.pinned l.groups) l.row l.entries.items l.from

abbrev pub decreases-loop-entry : goal.decreases-loop-entry
decreases-loop-entry g l = length l.row - l.from
