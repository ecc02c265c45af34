use Rattle.std.proofs.Common.{sym, ◌∙◌}
use Rattle.jsonc_edit.proofs.lemmas.set.FirstGap.{gap_at_end, gap_at_newline, gap_of_none, last_there}
use Rattle.jsonc_edit.proofs.set.first.first_gap.Goals as goal

pub returns-in_default-clause-gap : goal.returns-in_default-clause-gap
returns-in_default-clause-gap g c = gap_of_none c.args.tree.now.nodes c.args.tree.now.tree (sym c.last_child.ensures ∙ c.in_default.is)

pub returns-then-not-is_newline-clause-gap : goal.returns-then-not-is_newline-clause-gap
returns-then-not-is_newline-clause-gap g c =
    gap_at_end c.args.tree.now.nodes c.args.tree.now.tree c.in-Some.last (sym c.last_child.ensures ∙ c.in-Some.is) (sym c.is_newline.ensures.newline ∙ c.if-not-is_newline.true)

pub returns-clause-gap : goal.returns-clause-gap
returns-clause-gap g c =
    gap_at_newline c.args.tree.now.nodes c.args.tree.now.tree c.in-Some.last (sym c.last_child.ensures ∙ c.in-Some.is) (sym c.is_newline.ensures.newline ∙ c.if-not-is_newline.false) c.previous_sibling.result c.previous_sibling.ensures

pub returns-clause-in_tree : goal.returns-clause-in_tree
returns-clause-in_tree g c = last_there c.args.tree.now.nodes c.args.tree.now.tree c.in-Some.last (sym c.last_child.ensures ∙ c.in-Some.is)
