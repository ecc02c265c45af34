use Rattle.std.proofs.Common.{sym, ◌∙◌}
use Rattle.jsonc_layout.proofs.lemmas.nodes.Lines.{line_start, whole_line}
use Rattle.jsonc_layout.proofs.nodes.siblings.from_line_start.Goals as goal

pub returns-in-Some : goal.returns-in-Some
returns-in-Some g c = c.next_siblings.ensures.siblings ∙ line_start c.args.tree.now.nodes c.args.tree.now.tree c.args.node c.in-Some.newline (sym c.in-Some.ensures.newline)

pub returns-in-Some-parent : goal.returns-in-Some-parent
returns-in-Some-parent g c = c.children.ensures.children ∙ whole_line c.args.tree.now.nodes c.args.tree.now.tree c.args.node c.in-Some-parent.container (sym c.in-Some-parent.ensures) (sym c.newline_before.ensures.newline ∙ c.in_default.is)
