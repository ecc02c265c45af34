use Rattle.std.proofs.Common.{◌≡◌, ◌++◌, take}
use Rattle.std.specs.Prelude.{filter}
use Rattle.jsonc_tree.specs.Tree.{content_at}
use Rattle.jsonc_sort.specs.Leads.{is_comment_at}
use Rattle.jsonc_sort.proofs.above.push_comments.Given as goal

abbrev pub invariant-loop-node : goal.invariant-loop-node
invariant-loop-node g l = l.found.items ≡ l.fn.found.items ++ filter (is_comment_at (content_at l.tree.nodes)) (take l.node-index l.nodes)
