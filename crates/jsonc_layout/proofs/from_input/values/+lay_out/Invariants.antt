use Rattle.jsonc_layout.specs.from_input.Layout.{layout_of}
use Rattle.jsonc_layout.proofs.lemmas.from_input.Rows.{Written, lines_from, line_from, properties_from}
use Rattle.jsonc_layout.proofs.from_input.values.+lay_out.Given as goal

abbrev pub invariant-push_elements_on_lines-loop-place : goal.invariant-push_elements_on_lines-loop-place
invariant-push_elements_on_lines-loop-place g l = Written l.initial.tree.nodes l.tree.nodes l.array (lines_from (layout_of l.layout) l.elements 0) (lines_from (layout_of l.layout) l.elements l.place)

abbrev pub invariant-push_elements_on_one_line-loop-place : goal.invariant-push_elements_on_one_line-loop-place
invariant-push_elements_on_one_line-loop-place g l = Written l.initial.tree.nodes l.tree.nodes l.array (line_from (layout_of l.layout) l.elements 0) (line_from (layout_of l.layout) l.elements l.place)

abbrev pub invariant-push_properties_on_lines-loop-place : goal.invariant-push_properties_on_lines-loop-place
invariant-push_properties_on_lines-loop-place g l = Written l.initial.tree.nodes l.tree.nodes l.object (properties_from (layout_of l.layout) l.properties 0) (properties_from (layout_of l.layout) l.properties l.place)
