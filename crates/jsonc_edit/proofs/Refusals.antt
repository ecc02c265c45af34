-- Where an edit was refused, the document is as it was.
use Rattle.std.proofs.Common.{◌≡◌, List, length, ◌∙◌}
use Rattle.jsonc_tree.specs.Building.{Keeps}
use Rattle.jsonc_tree.specs.OrderedTree.{ordered_tree}
use Rattle.jsonc_tree.specs.Tree.{Node, IsTree}
use Rattle.jsonc_edit.specs.Put.{Extends}
use Rattle.jsonc_edit.proofs.NodesKept.{tree_stays}

-- a value was laid out, and then spaces were made
pub tree_stays_twice : (old made ready : List Node) → IsTree old → IsTree made → Keeps (length old) old made → Extends made ready → ordered_tree ready 0 ≡ ordered_tree old 0
tree_stays_twice old made ready tree built kept prepared = tree_stays made ready built prepared.keeps prepared.tree ∙ tree_stays old made tree kept built
