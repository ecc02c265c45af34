use Rattle.std.proofs.Common.{◌≡◌}
use Rattle.jsonc_layout.specs.nodes.Siblings.{siblings_before}
use Rattle.jsonc_layout.proofs.lemmas.lines.LineBegins.{begins_from}
use Rattle.jsonc_layout.proofs.lines.indent.begins_line.Given as goal

abbrev pub invariant-loop-sibling : goal.invariant-loop-sibling
invariant-loop-sibling g l = begins_from l.tree.nodes (siblings_before l.tree.nodes l.node) ≡ begins_from l.tree.nodes l.sibling-iterator
