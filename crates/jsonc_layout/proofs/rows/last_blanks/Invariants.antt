use Rattle.jsonc_layout.specs.nodes.Kinds.{is_blank_at}
use Rattle.jsonc_layout.proofs.lemmas.nodes.Runs.{BackPasses}
use Rattle.jsonc_layout.proofs.rows.last_blanks.Given as goal

abbrev pub invariant-loop-end : goal.invariant-loop-end
invariant-loop-end g l = BackPasses (is_blank_at l.tree.nodes) l.row l.end

abbrev pub decreases-loop-end : goal.decreases-loop-end
decreases-loop-end g l = l.end
