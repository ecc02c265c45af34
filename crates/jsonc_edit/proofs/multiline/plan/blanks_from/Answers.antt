use Rattle.std.proofs.Common.{arith, rules}
use Rattle.jsonc_layout.specs.nodes.Kinds.{is_whitespace_at}
use Rattle.jsonc_edit.proofs.lemmas.multiline.RowByNode.{back_count}
use Rattle.jsonc_edit.proofs.multiline.plan.blanks_from.Goals as goal

pub returns-then-not-is_whitespace-clause-from : goal.returns-then-not-is_whitespace-clause-from
returns-then-not-is_whitespace-clause-from g c =
    back_count (is_whitespace_at c.args.tree.now.nodes) c.args.row.now c.loop-end.end c.loop-end.invariant.within c.loop-end.invariant.blank (λ h. search rules)

pub returns-clause-from : goal.returns-clause-from
returns-clause-from g c =
    back_count (is_whitespace_at c.args.tree.now.nodes) c.args.row.now 0 (omega arith) (λ k a b. c.loop-end.invariant.blank k (omega arith) b) (λ h. absurd (omega arith))
