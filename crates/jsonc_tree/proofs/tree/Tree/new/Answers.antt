use Rattle.std.proofs.Common.{refl}
use Rattle.jsonc_tree.specs.Content.{root}
use Rattle.jsonc_tree.proofs.UnchangedRows.{alone_stored}
use Rattle.jsonc_tree.proofs.tree.Tree.new.Goals as goal

pub invariant_of-result : goal.invariant_of-result
invariant_of-result g c = (rw (c.in_ok-push.ensures.items, c.new-nodes.ensures.items, c.bare_node.ensures) (alone_stored root refl), tt)
