use Rattle.std.proofs.Common.{[], ◌∷◌, sym, ◌∙◌, subst}
use Rattle.jsonc_tree.specs.Content.{newline, whitespace}
use Rattle.jsonc_layout.specs.Building.{Gains}
use Rattle.jsonc_layout.specs.nodes.Kinds.{is_whitespace_at}
use Rattle.jsonc_edit.specs.multiline.LineViews.{lines_of}
use Rattle.jsonc_edit.specs.multiline.Plans.{GainsChild, child_slots}
use Rattle.jsonc_edit.proofs.lemmas.multiline.Planning.{line_gained, kept_gained}
use Rattle.jsonc_edit.proofs.multiline.plan.push_child.Goals as goal
use Rattle.jsonc_edit.proofs.multiline.plan.push_child.Goals.{then-begins+else-blank+in_ok-push_line, else-begins}

pub returns-clause-gains : goal.returns-clause-gains
returns-clause-gains g c =
    let lines = lines_of c.args.lines.now in
    let blank = is_whitespace_at c.args.tree.now.nodes c.args.child in
    subst (λ r. GainsChild c.args.tree.now.nodes c.args.row.now.nodes.items c.if-begins.tree.nodes r c.args.child (child_slots lines c.args.begins blank c.args.child)) (sym c.in_ok-push.ensures.items)
    (elim c.if-begins.branch [
      | then-begins+else-blank+in_ok-push_line w ↦ rw (w.tree-is, w.row-is) (line_gained lines c.args.tree.now.nodes c.args.row.now.nodes.items c.args.begins blank c.args.child w.push_line.new.tree.nodes w.push_line.new.self.nodes.items w.if-begins.true (sym c.is_whitespace-blank.ensures.whitespace ∙ w.if-blank.false) w.push_line.new.tree.tree
          (subst (λ s. Gains c.args.tree.now.nodes c.args.row.now.nodes.items w.push_line.new.tree.nodes w.push_line.new.self.nodes.items (newline lines.newline ∷ whitespace s ∷ [])) w.as_str.ensures.value w.in_ok-push_line.ensures.gains))
      | else-begins w ↦ rw (w.tree-is, w.row-is) (kept_gained lines c.args.tree.now.nodes c.args.row.now.nodes.items c.args.begins blank c.args.child w.if-begins.false)
    ])
