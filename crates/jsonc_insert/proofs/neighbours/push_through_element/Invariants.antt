use Rattle.std.proofs.Common.{◌≡◌, ◌++◌}
use Rattle.jsonc_insert.specs.Planned.{through_element}
use Rattle.jsonc_insert.proofs.neighbours.push_through_element.Given as goal

abbrev pub invariant-loop-node : goal.invariant-loop-node
invariant-loop-node g l = l.row.items ++ through_element l.tree.nodes l.node-iterator ≡ l.fn.row.items ++ through_element l.tree.nodes l.fn.nodes
