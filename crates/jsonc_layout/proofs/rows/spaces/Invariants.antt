use Rattle.jsonc_layout.specs.nodes.Kinds.{is_whitespace_at}
use Rattle.jsonc_layout.proofs.lemmas.nodes.Runs.{FrontPasses}
use Rattle.jsonc_layout.proofs.rows.spaces.Given as goal

abbrev pub invariant-loop-place : goal.invariant-loop-place
invariant-loop-place g l = FrontPasses (is_whitespace_at l.tree.nodes) l.row l.place
