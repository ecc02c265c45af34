use Rattle.jsonc_tree.specs.Tree.{content_at}
use Rattle.jsonc_sort.proofs.LeadsRead.{ToldSoFar}
use Rattle.jsonc_sort.proofs.above.read_row.Given as goal

abbrev pub invariant-loop-entry : goal.invariant-loop-entry
invariant-loop-entry g l = ToldSoFar (content_at l.tree.nodes) l.row l.entry-items l.entry-index l.told.items
