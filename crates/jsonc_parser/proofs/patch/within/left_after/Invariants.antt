use Rattle.std.proofs.Common.{◌≡◌, ◌+◌}
use Rattle.jsonc_parser.specs.patch.Room.{bytes_of_first}
use Rattle.jsonc_parser.proofs.patch.within.left_after.Given as goal

abbrev pub invariant-loop-node : goal.invariant-loop-node
invariant-loop-node g l = bytes_of_first l.node l.tree.nodes + l.left ≡ bytes_of_first l.first l.tree.nodes + l.bytes
