-- What an edit of one leaf makes of a document: that leaf is another, and nothing else has changed.
use Rattle.jsonc_tree.specs.Changes.{LeafBecomes}
use Rattle.jsonc_tree.specs.Content.{Content}
use Rattle.jsonc_cst.specs.declared.cst.CstRootNode.{CstRootNode}
use Rattle.jsonc_cst.specs.declared.cst.node.CstNode.{CstNode}
use Rattle.jsonc_cst.specs.Document.{nodes_of}
use Rattle.jsonc_cst.specs.Nodes.{number_of}

module _ {A : Type 0} where
  -- the leaf is now this, and nothing else has changed
  abbrev pub HasBecome : CstRootNode A → CstRootNode A → CstNode → Content → Type 0
  HasBecome old new node content = LeafBecomes (nodes_of old) (nodes_of new) (number_of node) content
