use Rattle.std.proofs.Common.{◌∙◌, sym, reverse}
use Rattle.std.proofs.lemmas.List.Folds.{length-prefix_len}
use Rattle.jsonc_layout.specs.nodes.Kinds.{is_whitespace_at}
use Rattle.jsonc_layout.proofs.lemmas.nodes.Runs.{back_more, back_ends, back_whole}
use Rattle.jsonc_layout.proofs.rows.last_spaces.Goals as goal

pub returns-then-not-is_whitespace-clause-count : goal.returns-then-not-is_whitespace-clause-count
returns-then-not-is_whitespace-clause-count g c = back_ends (is_whitespace_at c.args.tree.now.nodes) c.args.row.now c.loop-end.end c.loop-end.invariant c.loop-end-test.true (sym c.is_whitespace.ensures.whitespace ∙ c.if-not-is_whitespace.true) ∙ sym (length-prefix_len (is_whitespace_at c.args.tree.now.nodes) (reverse c.args.row.now))

pub returns-then-not-is_whitespace-clause-suffix : goal.returns-then-not-is_whitespace-clause-suffix
returns-then-not-is_whitespace-clause-suffix g c = back_ends (is_whitespace_at c.args.tree.now.nodes) c.args.row.now c.loop-end.end c.loop-end.invariant c.loop-end-test.true (sym c.is_whitespace.ensures.whitespace ∙ c.if-not-is_whitespace.true)

pub loop-end-preserved : goal.loop-end-preserved
loop-end-preserved g c = back_more (is_whitespace_at c.args.tree.now.nodes) c.args.row.now c.loop-end.end c.loop-end.invariant c.loop-end-test.true (sym c.is_whitespace.ensures.whitespace ∙ c.if-not-is_whitespace.false)

pub returns-clause-count : goal.returns-clause-count
returns-clause-count g c = back_whole (is_whitespace_at c.args.tree.now.nodes) c.args.row.now c.loop-end.end c.loop-end.invariant c.loop-end-test.false ∙ sym (length-prefix_len (is_whitespace_at c.args.tree.now.nodes) (reverse c.args.row.now))

pub returns-clause-suffix : goal.returns-clause-suffix
returns-clause-suffix g c = back_whole (is_whitespace_at c.args.tree.now.nodes) c.args.row.now c.loop-end.end c.loop-end.invariant c.loop-end-test.false
