use Rattle.std.proofs.Common.{◌≡◌, drop}
use Rattle.jsonc_tree.specs.Tree.{content_at}
use Rattle.jsonc_sort.specs.Leads.{has_blank_line}
use Rattle.jsonc_sort.proofs.Reading.{Blank}
use Rattle.jsonc_sort.proofs.leads.has_blank_line.Given as goal

abbrev pub invariant-loop-node : goal.invariant-loop-node
invariant-loop-node g l = has_blank_line (content_at l.tree.nodes) l.row ≡ Blank (content_at l.tree.nodes) l.ended (drop l.node-index l.row)
