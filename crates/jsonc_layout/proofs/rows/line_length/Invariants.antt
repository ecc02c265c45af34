use Rattle.jsonc_layout.specs.nodes.Siblings.{is_no_newline_at}
use Rattle.jsonc_layout.proofs.lemmas.nodes.Runs.{FrontPasses}
use Rattle.jsonc_layout.proofs.rows.line_length.Given as goal

abbrev pub invariant-loop-place : goal.invariant-loop-place
invariant-loop-place g l = FrontPasses (is_no_newline_at l.tree.nodes) l.row l.place
