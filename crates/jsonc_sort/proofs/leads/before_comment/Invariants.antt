use Rattle.jsonc_tree.specs.Tree.{content_at}
use Rattle.jsonc_sort.proofs.Reading.{Passed}
use Rattle.jsonc_sort.proofs.leads.before_comment.Given as goal

abbrev pub invariant-loop-place : goal.invariant-loop-place
invariant-loop-place g l = Passed (content_at l.tree.nodes) l.number l.row l.left l.place
