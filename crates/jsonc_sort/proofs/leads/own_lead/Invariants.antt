use Rattle.jsonc_tree.specs.Tree.{content_at}
use Rattle.jsonc_sort.proofs.Own.{Passed}
use Rattle.jsonc_sort.proofs.leads.own_lead.Given as goal

abbrev pub invariant-loop-place : goal.invariant-loop-place
invariant-loop-place g l = Passed (content_at l.tree.nodes) l.lead l.place l.start l.ended

abbrev pub decreases-loop-place : goal.decreases-loop-place
decreases-loop-place g l = l.place
