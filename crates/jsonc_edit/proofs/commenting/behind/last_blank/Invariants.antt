use Rattle.std.proofs.Common.{◌≡◌, ◌<◌, length}
use Rattle.jsonc_tree.specs.Siblings.{siblings_after}
use Rattle.jsonc_edit.specs.commenting.Behind.{last_blank}
use Rattle.jsonc_edit.proofs.commenting.behind.last_blank.Given as goal

abbrev pub invariant-loop-next : goal.invariant-loop-next
invariant-loop-next g l = record {
  same : last_blank l.tree.nodes l.node ≡ last_blank l.tree.nodes l.last;
  in_tree : l.last < length l.tree.nodes;
}

abbrev pub decreases-loop-next : goal.decreases-loop-next
decreases-loop-next g l = length (siblings_after l.tree.nodes l.last)
