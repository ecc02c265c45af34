use Rattle.std.proofs.Common.{sym, ◌∙◌}
use Rattle.jsonc_run.proofs.Numbered.{removal_made, removal_told}
use Rattle.jsonc_run.proofs.EditsMade.{nowhere, answers}
use Rattle.jsonc_run.specs.Edits.{remove_comment}
use Rattle.jsonc_run.proofs.at.remove_at.Goals as goal

pub returns-in_default : goal.returns-in_default
returns-in_default g c =
    nowhere c.args.tree.now.nodes (remove_comment c.args.number)
    (λ p. c.in_default.not-Some p.0 (c.find_comment.ensures.found ∙ p.1))

pub returns : goal.returns
returns g c =
    answers c.args.tree.now.nodes c.remove_comment.new.tree.nodes (remove_comment c.args.number) c.remove_comment.result
    (removal_made c.args.tree.now.nodes c.args.tree.now.tree c.remove_comment.result c.remove_comment.new.tree.nodes c.remove_comment.new.tree.tree c.in-Some.comment c.args.number (sym c.find_comment.ensures.found ∙ c.in-Some.is) c.in-Some.ensures.below c.in-Some.ensures.comment c.remove_comment.ensures.removed)
    (removal_told c.args.tree.now.nodes c.args.tree.now.tree c.remove_comment.result c.in-Some.comment c.args.number (sym c.find_comment.ensures.found ∙ c.in-Some.is) c.remove_comment.ensures.memory c.remove_comment.ensures.oom_only_if)
    c.remove_comment.ensures.kept c.remove_comment.ensures.document
