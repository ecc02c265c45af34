use Rattle.std.proofs.Common.{◌∙◌, sym}
use Rattle.std.proofs.lemmas.List.Folds.{length-prefix_len}
use Rattle.jsonc_layout.specs.nodes.Kinds.{is_blank_at}
use Rattle.jsonc_layout.proofs.lemmas.nodes.Runs.{front_more, front_ends, front_whole}
use Rattle.jsonc_layout.proofs.rows.blanks.Goals as goal

pub returns-then-not-is_blank-clause-count : goal.returns-then-not-is_blank-clause-count
returns-then-not-is_blank-clause-count g c =
    front_ends (is_blank_at c.args.tree.now.nodes) c.args.row.now c.loop-place.place c.loop-place.invariant c.loop-place-test.true (sym c.is_blank.ensures.blank ∙ c.if-not-is_blank.true) ∙ sym (length-prefix_len (is_blank_at c.args.tree.now.nodes) c.args.row.now)

pub loop-place-preserved : goal.loop-place-preserved
loop-place-preserved g c =
    front_more (is_blank_at c.args.tree.now.nodes) c.args.row.now c.loop-place.place c.loop-place.invariant c.loop-place-test.true (sym c.is_blank.ensures.blank ∙ c.if-not-is_blank.false)

pub returns-clause-count : goal.returns-clause-count
returns-clause-count g c =
    front_whole (is_blank_at c.args.tree.now.nodes) c.args.row.now c.loop-place.place c.loop-place.invariant c.loop-place-test.false ∙ sym (length-prefix_len (is_blank_at c.args.tree.now.nodes) c.args.row.now)
