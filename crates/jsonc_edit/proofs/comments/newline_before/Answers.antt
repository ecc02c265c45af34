use Rattle.std.proofs.Common.{sym, ◌∙◌}
use Rattle.jsonc_edit.proofs.BlanksBefore.{newline_before, newline_child, newline_place, no_newline, no_newline_first}
use Rattle.jsonc_edit.proofs.comments.newline_before.Goals as goal

pub returns-in_default-clause-place : goal.returns-in_default-clause-place
returns-in_default-clause-place g c = no_newline_first c.args.tree.now.nodes c.args.tree.now.tree c.args.container c.args.node c.requires (sym c.previous_sibling.ensures ∙ c.in_default.is)

pub returns-then-not-is_newline-clause-place : goal.returns-then-not-is_newline-clause-place
returns-then-not-is_newline-clause-place g c =
    no_newline c.args.tree.now.nodes c.args.tree.now.tree c.args.container c.args.node c.requires c.in-Some.sibling (sym c.previous_sibling.ensures ∙ c.in-Some.is) (sym c.is_newline.ensures.newline ∙ c.if-not-is_newline.true)

pub returns-clause-child : goal.returns-clause-child
returns-clause-child g c = newline_child c.args.tree.now.nodes c.args.tree.now.tree c.args.container c.args.node c.requires c.in-Some.sibling (sym c.previous_sibling.ensures ∙ c.in-Some.is)

pub returns-clause-place : goal.returns-clause-place
returns-clause-place g c =
    newline_place c.args.tree.now.nodes c.args.tree.now.tree c.args.container c.args.node c.requires c.in-Some.sibling (sym c.previous_sibling.ensures ∙ c.in-Some.is) (sym c.is_newline.ensures.newline ∙ c.if-not-is_newline.false)

pub returns-clause-before : goal.returns-clause-before
returns-clause-before g c = newline_before c.args.tree.now.nodes c.args.tree.now.tree c.args.container c.args.node c.requires c.in-Some.sibling (sym c.previous_sibling.ensures ∙ c.in-Some.is)
