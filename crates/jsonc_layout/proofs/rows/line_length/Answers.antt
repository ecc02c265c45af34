use Rattle.std.proofs.Common.{◌∙◌, sym, ap, not}
use Rattle.std.proofs.lemmas.List.Folds.{length-prefix_len}
use Rattle.jsonc_layout.specs.nodes.Siblings.{is_no_newline_at}
use Rattle.jsonc_layout.proofs.lemmas.nodes.Runs.{front_more, front_ends, front_whole}
use Rattle.jsonc_layout.proofs.rows.line_length.Goals as goal

pub returns-then-is_newline-clause-count : goal.returns-then-is_newline-clause-count
returns-then-is_newline-clause-count g c =
    front_ends (is_no_newline_at c.args.tree.now.nodes) c.args.row.now c.loop-place.place c.loop-place.invariant c.loop-place-test.true (ap not (sym c.is_newline.ensures.newline ∙ c.if-is_newline.true)) ∙ sym (length-prefix_len (is_no_newline_at c.args.tree.now.nodes) c.args.row.now)

pub returns-then-is_newline-clause-place : goal.returns-then-is_newline-clause-place
returns-then-is_newline-clause-place g c =
    front_ends (is_no_newline_at c.args.tree.now.nodes) c.args.row.now c.loop-place.place c.loop-place.invariant c.loop-place-test.true (ap not (sym c.is_newline.ensures.newline ∙ c.if-is_newline.true))

pub loop-place-preserved : goal.loop-place-preserved
loop-place-preserved g c =
    front_more (is_no_newline_at c.args.tree.now.nodes) c.args.row.now c.loop-place.place c.loop-place.invariant c.loop-place-test.true (ap not (sym c.is_newline.ensures.newline ∙ c.if-is_newline.false))

pub returns-clause-count : goal.returns-clause-count
returns-clause-count g c =
    front_whole (is_no_newline_at c.args.tree.now.nodes) c.args.row.now c.loop-place.place c.loop-place.invariant c.loop-place-test.false ∙ sym (length-prefix_len (is_no_newline_at c.args.tree.now.nodes) c.args.row.now)

pub returns-clause-place : goal.returns-clause-place
returns-clause-place g c =
    front_whole (is_no_newline_at c.args.tree.now.nodes) c.args.row.now c.loop-place.place c.loop-place.invariant c.loop-place-test.false
