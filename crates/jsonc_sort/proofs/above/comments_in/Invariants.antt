use Rattle.jsonc_tree.specs.Tree.{content_at}
use Rattle.jsonc_sort.proofs.LeadsRead.{FoundSoFar}
use Rattle.jsonc_sort.proofs.above.comments_in.Given as goal

abbrev pub invariant-loop-entry : goal.invariant-loop-entry
invariant-loop-entry g l = FoundSoFar (content_at l.tree.nodes) l.row l.entry-items l.entry-index l.found.items
