-- What a document is: its ordered tree, and what it prints.
use Rattle.std.specs.Prelude.{ℕ, List, Option, chars}
use Rattle.jsonc_text.specs.Grammar.{IsDocument}
use Rattle.jsonc_text.specs.Options.{Options}
use Rattle.jsonc_text.specs.Plain.{Plain}
use Rattle.jsonc_tree.specs.Content.{Content}
use Rattle.jsonc_tree.specs.Tree.{Node, content_at}
use Rattle.jsonc_tree.specs.OrderedTree.{OrderedTree, ordered_tree, printed}
pub use Rattle.jsonc_text.specs.EditErrors.{edit_error_text}
pub use Rattle.jsonc_text.specs.declared.edit.EditError.{EditError}
pub use Rattle.jsonc_text.specs.declared.edit.EditError.TheVariants.{OutOfMemory}
pub use Rattle.jsonc_walk.specs.Refusals.{RefusesText, IsWithin}
pub use Rattle.jsonc_build.specs.Laid.{DocumentLaid, LiesIn}
use Rattle.jsonc_cst.specs.declared.cst.CstRootNode.{CstRootNode}
use Rattle.jsonc_cst.specs.declared.cst.node.CstContainerNode.{CstContainerNode}
use Rattle.jsonc_cst.specs.declared.cst.node.CstNode.{CstNode}
use Rattle.jsonc_cst.specs.Nodes.{number_of, parent_node, nodes_above, child_nodes, IsNodeOf}

-- no more than 512 containers and properties are around each value in the text
abbrev pub HasNoDeeperValue : Options → List ℕ → Type 0
HasNoDeeperValue o bytes = (w : Option Plain) → IsDocument o (chars bytes) w → IsWithin w

module _ {A : Type 0} where
  -- its nodes
  abbrev pub nodes_of : CstRootNode A → List Node
  nodes_of d = d.tree.nodes

  -- what gives its memory
  abbrev pub allocator_of : CstRootNode A → A
  allocator_of d = d.alloc

  -- the document has this node
  abbrev pub HasNode : CstRootNode A → CstNode → Type 0
  HasNode d node = IsNodeOf (nodes_of d) node

  -- what a node of it is
  abbrev pub content_of : CstRootNode A → CstNode → Content
  content_of d node = content_at (nodes_of d) (number_of node)

  -- the container that the node is a child of
  abbrev pub parent_of : CstRootNode A → CstNode → Option CstContainerNode
  parent_of d node = parent_node (nodes_of d) (number_of node)

  -- the containers above it, nearest first
  abbrev pub ancestors_of : CstRootNode A → CstNode → List CstContainerNode
  ancestors_of d node = nodes_above (nodes_of d) (number_of node)

  -- its children, in order
  abbrev pub children_of : CstRootNode A → CstNode → List CstNode
  children_of d node = child_nodes (nodes_of d) (number_of node)

  -- the ordered tree of a document
  abbrev pub tree_of : CstRootNode A → OrderedTree
  tree_of d = ordered_tree d.tree.nodes 0

  -- the bytes that a document prints
  abbrev pub printed_of : CstRootNode A → List ℕ
  printed_of d = printed (tree_of d)
