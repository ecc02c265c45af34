use Rattle.std.proofs.Common.{◌≡◌, ◌<◌, length, IfSome}
use Rattle.jsonc_tree.specs.Tree.{IsOver}
use Rattle.jsonc_tree.specs.Order.{rest_at}
use Rattle.jsonc_edit.specs.commas.InTurn.{to_come, IsOpen}
use Rattle.jsonc_edit.proofs.commas.setting.holder_from.Given as goal

abbrev pub invariant-loop-next : goal.invariant-loop-next
invariant-loop-next g l = record {
  in_tree : IfSome l.next (λ n. n < length l.tree.nodes);
  over : IfSome l.next (IsOver l.tree.nodes l.end);
  inside : IfSome l.next (IsOpen l.tree.nodes l.end);
  come : to_come l.tree.nodes l.end l.fn.from ≡ to_come l.tree.nodes l.end l.next;
}

abbrev pub decreases-loop-next : goal.decreases-loop-next
decreases-loop-next g l = length (rest_at l.tree.nodes l.end l.next)
