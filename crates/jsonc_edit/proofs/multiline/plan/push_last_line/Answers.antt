use Rattle.std.proofs.Common.{[], ◌∷◌, ◌==◌, length, sym, ap, subst, ◌∙◌}
use Rattle.jsonc_tree.specs.Content.{newline, whitespace}
use Rattle.jsonc_layout.specs.Building.{Gains}
use Rattle.jsonc_layout.proofs.lemmas.Building.{gained_as}
use Rattle.jsonc_edit.specs.multiline.LineViews.{lines_of}
use Rattle.jsonc_edit.specs.multiline.Lines.{last_leaves}
use Rattle.jsonc_edit.proofs.lemmas.multiline.Planning.{no_indent, one_indent}
use Rattle.jsonc_edit.proofs.multiline.plan.push_last_line.Goals as goal

pub returns-then-is_empty-clause-gains : goal.returns-then-is_empty-clause-gains
returns-then-is_empty-clause-gains g c =
    subst (Gains c.args.tree.now.nodes c.args.row.now.nodes.items c.push.new.tree.nodes c.push.new.self.nodes.items)
    (ap (λ l. newline c.args.lines.now.newline ∷ l) (no_indent _ (ap (λ s. length s == 0) (sym c.as_str.ensures.value) ∙ sym c.is_empty.ensures ∙ c.if-is_empty.true))) c.in_ok-push.ensures.gains

pub returns-clause-gains : goal.returns-clause-gains
returns-clause-gains g c =
    gained_as c.args.tree.now.nodes c.push.new.tree.nodes c.push_blank.new.tree.nodes c.args.row.now.nodes.items c.push.new.self.nodes.items c.push_blank.new.self.nodes.items _ _ (last_leaves (lines_of c.args.lines.now)) c.push_blank.result
    (ap (λ l. newline c.args.lines.now.newline ∷ l)
    (ap (λ s. whitespace s ∷ []) c.as_str-2.ensures.value ∙ one_indent _ (ap (λ s. length s == 0) (sym c.as_str.ensures.value) ∙ sym c.is_empty.ensures ∙ c.if-is_empty.false))) c.in_ok-push.ensures.gains c.push_blank.ensures.gains
