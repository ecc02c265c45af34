use Rattle.std.proofs.Common.{sym, ◌∙◌}
use Rattle.jsonc_edit.proofs.ReplacedChildren.{where_refused}
use Rattle.jsonc_edit.proofs.NodesKept.{tree_stays}
use Rattle.jsonc_edit.proofs.RemovedComments.{comment_leaves, comment_leaves_alone}
use Rattle.jsonc_edit.proofs.TakingOut.{space_children, space_child, comment_taken_out}
use Rattle.jsonc_edit.proofs.comments.remove_comment.Goals as goal

pub returns-in_err-spaces-clause-document : goal.returns-in_err-spaces-clause-document
returns-in_err-spaces-clause-document g c =
    where_refused c.from_residual.result (tree_stays c.args.tree.now.nodes c.make_spaces.new.tree.nodes c.args.tree.now.tree c.make_spaces.ensures.prepared.keeps c.make_spaces.ensures.prepared.tree)

pub put_spaces-requires-clause-children : goal.put_spaces-requires-clause-children
put_spaces-requires-clause-children g c =
    space_children c.args.tree.now.nodes c.make_spaces.new.tree.nodes c.args.tree.now.tree c.make_spaces.ensures.prepared c.args.comment c.in-Some.container (sym c.parent.ensures ∙ c.in-Some.is) c.first_removed-first.result c.first_removed-first.ensures.first c.space_needed_between-due.result c.space_needed_between-due.ensures.due
    c.in_ok-spaces.spaces c.in_ok-spaces.ensures.hand.are

pub take_out-requires : goal.take_out-requires
take_out-requires g c =
    space_child c.args.tree.now.nodes c.make_spaces.new.tree.nodes c.args.tree.now.tree c.make_spaces.ensures.prepared c.args.comment c.in-Some.container (sym c.parent.ensures ∙ c.in-Some.is) c.first_removed-first.result c.first_removed-first.ensures.first c.space_needed_between-due.result c.space_needed_between-due.ensures.due
    c.in_ok-spaces.spaces c.in_ok-spaces.ensures.hand.are c.put_spaces.new.tree.nodes c.put_spaces.ensures.put

pub returns-clause-removed : goal.returns-clause-removed
returns-clause-removed g c =
    comment_taken_out c.args.tree.now.nodes c.make_spaces.new.tree.nodes c.args.tree.now.tree c.make_spaces.ensures.prepared c.args.comment c.in-Some.container (sym c.parent.ensures ∙ c.in-Some.is) c.first_removed-first.result c.first_removed-first.ensures.first c.space_needed_between-due.result c.space_needed_between-due.ensures.due
    c.in_ok-spaces.spaces c.in_ok-spaces.ensures.hand.are c.put_spaces.new.tree.nodes c.put_spaces.ensures.put c.take_out.new.tree.nodes c.take_out.ensures.removed

pub returns-clause-written : goal.returns-clause-written
returns-clause-written g c = λ o. comment_leaves c.args.tree.now.nodes c.take_out.new.tree.nodes c.args.tree.now.tree c.take_out.new.tree.tree c.args.comment o (returns-clause-removed g c)

pub returns-clause-around : goal.returns-clause-around
returns-clause-around g c = comment_leaves_alone c.args.tree.now.nodes c.take_out.new.tree.nodes c.args.tree.now.tree c.take_out.new.tree.tree c.args.comment (returns-clause-removed g c)
