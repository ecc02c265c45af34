use Rattle.std.proofs.Common.{◌∙◌, sym}
use Rattle.std.proofs.lemmas.List.Folds.{length-prefix_len}
use Rattle.jsonc_layout.specs.nodes.Kinds.{is_whitespace_at}
use Rattle.jsonc_layout.proofs.lemmas.nodes.Runs.{front_more, front_ends, front_whole}
use Rattle.jsonc_layout.proofs.rows.spaces.Goals as goal

pub returns-then-not-is_whitespace-clause-count : goal.returns-then-not-is_whitespace-clause-count
returns-then-not-is_whitespace-clause-count g c =
    front_ends (is_whitespace_at c.args.tree.now.nodes) c.args.row.now c.loop-place.place c.loop-place.invariant c.loop-place-test.true (sym c.is_whitespace.ensures.whitespace ∙ c.if-not-is_whitespace.true) ∙ sym (length-prefix_len (is_whitespace_at c.args.tree.now.nodes) c.args.row.now)

pub returns-then-not-is_whitespace-clause-prefix : goal.returns-then-not-is_whitespace-clause-prefix
returns-then-not-is_whitespace-clause-prefix g c =
    front_ends (is_whitespace_at c.args.tree.now.nodes) c.args.row.now c.loop-place.place c.loop-place.invariant c.loop-place-test.true (sym c.is_whitespace.ensures.whitespace ∙ c.if-not-is_whitespace.true)

pub loop-place-preserved : goal.loop-place-preserved
loop-place-preserved g c =
    front_more (is_whitespace_at c.args.tree.now.nodes) c.args.row.now c.loop-place.place c.loop-place.invariant c.loop-place-test.true (sym c.is_whitespace.ensures.whitespace ∙ c.if-not-is_whitespace.false)

pub returns-clause-count : goal.returns-clause-count
returns-clause-count g c =
    front_whole (is_whitespace_at c.args.tree.now.nodes) c.args.row.now c.loop-place.place c.loop-place.invariant c.loop-place-test.false ∙ sym (length-prefix_len (is_whitespace_at c.args.tree.now.nodes) c.args.row.now)

pub returns-clause-prefix : goal.returns-clause-prefix
returns-clause-prefix g c =
    front_whole (is_whitespace_at c.args.tree.now.nodes) c.args.row.now c.loop-place.place c.loop-place.invariant c.loop-place-test.false
