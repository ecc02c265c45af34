use Rattle.std.proofs.Common.{◌≡◌, false}
use Rattle.jsonc_layout.specs.nodes.Siblings.{siblings_before}
use Rattle.jsonc_layout.proofs.lemmas.lines.SiblingSteps.{blank_from}
use Rattle.jsonc_layout.proofs.lines.siblings.has_blank_line_before.Given as goal

abbrev pub invariant-loop-sibling : goal.invariant-loop-sibling
invariant-loop-sibling g l =
    blank_from false l.tree.nodes (siblings_before l.tree.nodes l.node) ≡ blank_from l.ended_line l.tree.nodes l.sibling-iterator
