use Rattle.std.proofs.Common.{◌≡◌, ◌<◌, length}
use Rattle.jsonc_tree.specs.Siblings.{siblings_after}
use Rattle.jsonc_edit.specs.remove.Comments.{line_behind}
use Rattle.jsonc_edit.proofs.remove.comments.line_behind.Given as goal

abbrev pub invariant-loop-next : goal.invariant-loop-next
invariant-loop-next g l = record {
  same : line_behind l.tree.nodes l.node ≡ line_behind l.tree.nodes l.last;
  in_tree : l.last < length l.tree.nodes;
}

abbrev pub decreases-loop-next : goal.decreases-loop-next
decreases-loop-next g l = length (siblings_after l.tree.nodes l.last)
