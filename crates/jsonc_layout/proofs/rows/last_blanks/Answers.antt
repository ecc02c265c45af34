use Rattle.std.proofs.Common.{◌∙◌, sym, reverse}
use Rattle.std.proofs.lemmas.List.Folds.{length-prefix_len}
use Rattle.jsonc_layout.specs.nodes.Kinds.{is_blank_at}
use Rattle.jsonc_layout.proofs.lemmas.nodes.Runs.{back_more, back_ends, back_whole}
use Rattle.jsonc_layout.proofs.rows.last_blanks.Goals as goal

pub returns-then-not-is_blank-clause-count : goal.returns-then-not-is_blank-clause-count
returns-then-not-is_blank-clause-count g c = back_ends (is_blank_at c.args.tree.now.nodes) c.args.row.now c.loop-end.end c.loop-end.invariant c.loop-end-test.true (sym c.is_blank.ensures.blank ∙ c.if-not-is_blank.true) ∙ sym (length-prefix_len (is_blank_at c.args.tree.now.nodes) (reverse c.args.row.now))

pub loop-end-preserved : goal.loop-end-preserved
loop-end-preserved g c = back_more (is_blank_at c.args.tree.now.nodes) c.args.row.now c.loop-end.end c.loop-end.invariant c.loop-end-test.true (sym c.is_blank.ensures.blank ∙ c.if-not-is_blank.false)

pub returns-clause-count : goal.returns-clause-count
returns-clause-count g c = back_whole (is_blank_at c.args.tree.now.nodes) c.args.row.now c.loop-end.end c.loop-end.invariant c.loop-end-test.false ∙ sym (length-prefix_len (is_blank_at c.args.tree.now.nodes) (reverse c.args.row.now))
