-- The nodes of a document as a tree, in the words of the calls that go from node to node.
use Rattle.std.specs.Prelude.{◌≡◌, ◌≢◌, ℕ, [], ◌∷◌, Some, None}
use Rattle.std.specs.List.{All, slice_get}
use Rattle.jsonc_tree.specs.Tree.{place_at}
use Rattle.jsonc_cst.specs.declared.cst.CstRootNode.{CstRootNode}
use Rattle.jsonc_cst.specs.declared.cst.node.CstContainerNode.{CstContainerNode}
use Rattle.jsonc_cst.specs.declared.cst.node.CstLeafNode.{CstLeafNode}
use Rattle.jsonc_cst.specs.declared.cst.node.CstNode.{CstNode}
use Rattle.jsonc_cst.specs.declared.cst.node.CstNode.TheVariants.{Container, Leaf}
use Rattle.jsonc_cst.specs.Document.{nodes_of, HasNode, parent_of, ancestors_of, children_of}
use Rattle.jsonc_cst.specs.Nodes.{number_of, root_node}
use Rattle.jsonc_cst.specs.Readings.{root_under}

module _ {A : Type 0} where
  -- a node's place among its parent's children
  abbrev pub place_of : CstRootNode A → CstNode → ℕ
  place_of d node = place_at (nodes_of d) (number_of node)

  -- the node is among the children of the container, at this place
  abbrev pub IsChildAt : CstRootNode A → CstContainerNode → ℕ → CstNode → Type 0
  IsChildAt d c k node = slice_get (children_of d (Container c)) k ≡ Some node

  -- The nodes are a tree. The root has no parent, and a leaf has no children. A node with a parent is the parent's
  -- child at the node's place; and the child of a container at a place has the container as its parent, and that place.
  -- Above a node are its parent, if it has one, and those above the parent; and none of them is the node.
  pub record NodesAreTree (d : CstRootNode A) : Type 0 where
    pub root_alone : parent_of d (root_node (root_under 0)) ≡ None
    pub leaf : (l : CstLeafNode) → HasNode d (Leaf l) → children_of d (Leaf l) ≡ []
    pub found : (node : CstNode) (c : CstContainerNode) → HasNode d node → parent_of d node ≡ Some c → IsChildAt d c (place_of d node) node
    pub named : (c : CstContainerNode) (k : ℕ) (node : CstNode) → HasNode d (Container c) → IsChildAt d c k node → parent_of d node ≡ Some c
    pub placed : (c : CstContainerNode) (k : ℕ) (node : CstNode) → HasNode d (Container c) → IsChildAt d c k node → place_of d node ≡ k
    pub top : (node : CstNode) → parent_of d node ≡ None → ancestors_of d node ≡ []
    pub above : (node : CstNode) (c : CstContainerNode) → parent_of d node ≡ Some c → ancestors_of d node ≡ c ∷ ancestors_of d (Container c)
    pub not_itself : (node : CstNode) → All (λ c. Container c ≢ node) (ancestors_of d node)
