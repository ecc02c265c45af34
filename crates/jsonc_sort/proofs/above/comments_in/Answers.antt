use Rattle.std.proofs.Common.{arith}
use Rattle.jsonc_tree.specs.Tree.{content_at}
use Rattle.jsonc_sort.proofs.LeadsRead.{found_all}
use Rattle.jsonc_sort.proofs.above.comments_in.Goals as goal

pub returns : goal.returns
returns g c = found_all (content_at c.args.tree.now.nodes) c.args.row.now _ c.loop-entry.entry-index c.loop-entry.found.items (omega arith) c.loop-entry.invariant
