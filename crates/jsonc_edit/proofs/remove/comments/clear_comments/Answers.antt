use Rattle.std.proofs.Common.{arith, sym, ◌∙◌}
use Rattle.jsonc_edit.proofs.lemmas.remove.ClearedComments.{all_cleared, node_is, node_not, so_far_cleared, so_far_none, so_far_passed}
use Rattle.jsonc_edit.proofs.remove.comments.clear_comments.Goals as goal
use Rattle.jsonc_edit.proofs.remove.comments.clear_comments.Goals.{then-is_node, else-is_node}

pub clear_comment-requires : goal.clear_comment-requires
clear_comment-requires g c = sym c.parent.ensures ∙ node_is c.parent.result c.args.container (sym c.is_node.ensures ∙ c.if-is_node.true)

pub loop-comment-init : goal.loop-comment-init
loop-comment-init g c = so_far_none c.args.tree.now.nodes c.args.container c.args.comments.now

pub loop-comment-preserved : goal.loop-comment-preserved
loop-comment-preserved g c =
    elim c.if-is_node.branch [
      | then-is_node w ↦
          rw w.tree-is
          (so_far_cleared c.args.tree.now.nodes c.loop-comment.tree.nodes c.args.container c.args.comments.now c.loop-comment.comment-index c.loop-comment.invariant c.loop-comment-test.true w.clear_comment.new.tree.nodes w.clear_comment.new.tree.tree
          (sym c.parent.ensures ∙ node_is c.parent.result c.args.container (sym c.is_node.ensures ∙ w.if-is_node.true)) w.clear_comment.ensures.cleared)
      | else-is_node w ↦
          rw w.tree-is
          (so_far_passed c.args.tree.now.nodes c.loop-comment.tree.nodes c.args.container c.args.comments.now c.loop-comment.comment-index c.loop-comment.invariant c.loop-comment-test.true
          (λ same. node_not c.parent.result c.args.container (sym c.is_node.ensures ∙ w.if-is_node.false) (c.parent.ensures ∙ same)))
    ]

pub returns : goal.returns
returns g c = record {
  cleared = all_cleared c.args.tree.now.nodes c.loop-comment.tree.nodes c.close_up.new.tree.nodes c.args.container c.args.comments.now c.loop-comment.comment-index c.loop-comment.invariant (omega (arith, c.loop-comment-test.false)) c.close_up.ensures.closed;
}
