use Rattle.jsonc_tree.specs.Order.{in_order}
use Rattle.jsonc_cst.specs.Nodes.{number_of}
use Rattle.jsonc_cst.proofs.DescendantsBelow.{descendants_are, order_once, typed_once}
use Rattle.jsonc_cst.proofs.laws.descendants_are_those_below.Goals as goal

pub returns : goal.returns
returns g c = λ d node held. record {
  below = descendants_are d.tree.nodes d.tree.tree (number_of node) held.0;
  once = typed_once d.tree.nodes (in_order d.tree.nodes (number_of node)) (order_once d.tree.nodes d.tree.tree (number_of node) held.0);
}
