use Rattle.std.proofs.Common.{◌≡◌, ◌<◌, length}
use Rattle.jsonc_tree.specs.Order.{following}
use Rattle.jsonc_tree.specs.Tree.{IsOver}
use Rattle.jsonc_tree.proofs.Order.{levels}
use Rattle.jsonc_edit.specs.commas.InTurn.{IsOpen}
use Rattle.jsonc_edit.proofs.commas.setting.next_past.Given as goal

abbrev pub invariant-loop-at : goal.invariant-loop-at
invariant-loop-at g l =
    let ns = l.tree.nodes in
    record {
      in_tree : l.at < length ns;
      over : IsOver ns l.end l.at;
      inside : IsOpen ns l.end l.at;
      same : following ns l.end l.node ≡ following ns l.end l.at;
    }

abbrev pub decreases-loop-at : goal.decreases-loop-at
decreases-loop-at g l = levels (length l.tree.nodes) l.tree.nodes l.at
