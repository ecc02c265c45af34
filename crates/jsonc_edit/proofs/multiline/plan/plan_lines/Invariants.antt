use Rattle.jsonc_edit.specs.multiline.LineViews.{lines_of}
use Rattle.jsonc_edit.proofs.lemmas.multiline.WholeRow.{SoFar}
use Rattle.jsonc_edit.proofs.multiline.plan.plan_lines.Given as goal

abbrev pub invariant-loop-child : goal.invariant-loop-child
invariant-loop-child g l = SoFar l.fn.tree.nodes l.tree.nodes l.container (lines_of l.lines) l.child-items l.child-index l.begins l.row.nodes.items
