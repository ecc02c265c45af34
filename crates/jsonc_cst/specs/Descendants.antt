-- What an iterator over the nodes below a node gives.
use Rattle.std.specs.Prelude.{◌↔◌, ◌≢◌, List}
use Rattle.std.specs.List.{AllPairs, Contains}
use Rattle.jsonc_tree.specs.Tree.{IsOver}
use Rattle.jsonc_cst.specs.declared.cst.CstRootNode.{CstRootNode}
use Rattle.jsonc_cst.specs.declared.cst.node.CstNode.{CstNode}
use Rattle.jsonc_cst.specs.Document.{nodes_of, HasNode}
use Rattle.jsonc_cst.specs.Nodes.{number_of}

-- these are the nodes of the document that are the node or are below it, each once, and no others
pub record AreAllBelow {A : Type 0} (d : CstRootNode A) (node : CstNode) (list : List CstNode) : Type 0 where
  pub below : (m : CstNode) → Contains list m ↔ (HasNode d m × IsOver (nodes_of d) (number_of node) (number_of m))
  pub once : AllPairs (λ x y. x ≢ y) list
