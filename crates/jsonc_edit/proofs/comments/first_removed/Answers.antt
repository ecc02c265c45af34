use Rattle.std.proofs.Common.{sym, ◌∙◌}
use Rattle.jsonc_edit.proofs.BlanksBefore.{removes_line, removes_alone}
use Rattle.jsonc_edit.proofs.comments.first_removed.Goals as goal

pub returns-then-not-is_line_comment : goal.returns-then-not-is_line_comment
returns-then-not-is_line_comment g c =
    let r = removes_alone c.args.tree.now.nodes c.args.tree.now.tree c.args.container c.args.comment c.requires (sym c.is_line_comment.ensures ∙ c.if-not-is_line_comment.true) in
    record { first = r.0; before = r.1; in_tree = r.2 }

pub returns : goal.returns
returns g c =
    let r = removes_line c.args.tree.now.nodes c.args.tree.now.tree c.args.container c.args.comment c.requires (sym c.is_line_comment.ensures ∙ c.if-not-is_line_comment.false) c.first_blank-blank.result c.first_blank-blank.ensures.place c.first_blank-blank.ensures.before c.newline_before.result c.newline_before.ensures.child c.newline_before.ensures.place c.newline_before.ensures.before in
    record { first = r.0; before = r.1; in_tree = r.2 }
