use Rattle.std.proofs.Common.{◌≡◌, drop}
use Rattle.jsonc_tree.specs.Tree.{children_at}
use Rattle.jsonc_layout.proofs.nodes.siblings.children_from.Given as goal

abbrev pub invariant-loop-passed : goal.invariant-loop-passed
invariant-loop-passed g l = l.children ≡ drop l._passed (children_at l.tree.nodes l.container)
