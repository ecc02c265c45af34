use Rattle.jsonc_run.proofs.CommentMade.{comment_made, comment_told}
use Rattle.jsonc_run.proofs.EditsMade.{answers, not_found}
use Rattle.jsonc_run.specs.Edits.{insert_comment}
use Rattle.jsonc_run.proofs.at.insert_comment_at.Goals as goal

pub returns-in_default : goal.returns-in_default
returns-in_default g c = not_found _ _ c.find_entry.ensures.found (λ h. h) c.in_default.not-Some

pub returns : goal.returns
returns g c =
    let old = c.args.tree.now.nodes in
    let new = c.insert_comment.new.tree.nodes in
    let at = (c.find_entry.ensures.found c.in-Some.entry).0 c.in-Some.is in
    answers old new (insert_comment c.args.path.now c.args.place c.args.text.now) c.insert_comment.result
    (comment_made old c.args.tree.now.tree c.args.path.now c.in-Some.entry c.args.place c.args.text.now at c.insert_comment.result new c.insert_comment.ensures.may c.insert_comment.ensures.come)
    (comment_told old c.args.tree.now.tree c.args.path.now c.in-Some.entry c.args.place c.args.text.now at c.insert_comment.result c.insert_comment.ensures.error)
    c.insert_comment.ensures.kept c.insert_comment.ensures.document
