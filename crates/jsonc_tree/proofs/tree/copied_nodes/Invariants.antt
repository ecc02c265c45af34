use Rattle.std.proofs.Common.{◌≡◌, take}
use Rattle.jsonc_tree.proofs.tree.copied_nodes.Given as goal

abbrev pub invariant-loop-node : goal.invariant-loop-node
invariant-loop-node g l = l.copies.items ≡ take l.node-index l.node-items
