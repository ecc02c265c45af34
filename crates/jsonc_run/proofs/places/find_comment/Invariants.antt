use Rattle.std.proofs.Common.{◌≡◌, ◌<◌, length, filter, IfSome}
use Rattle.std.specs.List.{slice_get}
use Rattle.jsonc_tree.specs.Tree.{IsOver}
use Rattle.jsonc_tree.specs.Order.{rest_at}
use Rattle.jsonc_layout.specs.nodes.Kinds.{is_comment_at}
use Rattle.jsonc_edit.specs.Comments.{comment_at}
use Rattle.jsonc_run.proofs.places.find_comment.Given as goal

abbrev pub invariant-loop-next : goal.invariant-loop-next
invariant-loop-next g l = record {
  in_tree : IfSome l.next (λ n. n < length l.tree.nodes);
  over : IfSome l.next (λ n. IsOver l.tree.nodes 0 n);
  left : slice_get (filter (is_comment_at l.tree.nodes) (rest_at l.tree.nodes 0 l.next)) l.left ≡ comment_at l.tree.nodes l.initial.left;
}

abbrev pub decreases-loop-next : goal.decreases-loop-next
decreases-loop-next g l = length (rest_at l.tree.nodes 0 l.next)
