-- Elements that are inserted into arrays.
use Rattle.std.specs.Prelude.{◌≡◌, ℕ, List, length, min}
use Rattle.jsonc_text.specs.Plain.{Plain}
use Rattle.jsonc_tree.specs.Tree.{Node}
use Rattle.jsonc_layout.specs.nodes.Siblings.{elements_at}
use Rattle.jsonc_edit.specs.Paths.{IsElementOf}
use Rattle.jsonc_text.specs.declared.edit.EditError.{EditError}
use Rattle.jsonc_insert.specs.Inserted.{refusal, ElementPut}
use Rattle.jsonc_insert.specs.Laws.{KeepsNodesBut}
use Rattle.jsonc_cst.specs.declared.cst.CstRootNode.{CstRootNode}
use Rattle.jsonc_cst.specs.declared.cst.node.CstNode.{CstNode}
use Rattle.jsonc_cst.specs.Document.{nodes_of}
use Rattle.jsonc_cst.specs.Nodes.{number_of}

module _ (old new : List Node) where
  -- v has been inserted into the array c at this number, or after its last element where it has fewer: it is this node
  abbrev pub InsertedAt : ℕ → ℕ → Plain → CstNode → Type 0
  InsertedAt c i v now = ElementPut old new c i v (number_of now)

-- the same of a document
module _ {A : Type 0} (old new : CstRootNode A) where
  abbrev pub HasInsertedElement : CstNode → ℕ → Plain → CstNode → Type 0
  HasInsertedElement node i v now = InsertedAt (nodes_of old) (nodes_of new) (number_of node) i v now

  -- the node is the element of this number in it, or the last
  abbrev pub IsItsElement : CstNode → ℕ → CstNode → Type 0
  IsItsElement node i now = IsElementOf (nodes_of new) (number_of node) (min i (length (elements_at (nodes_of old) (number_of node)))) (number_of now)

  -- each other node is what it was, with the children that it had
  abbrev pub KeepsOthers : CstNode → Type 0
  KeepsOthers node = KeepsNodesBut (nodes_of old) (nodes_of new) (number_of node)

-- how many elements it has
abbrev pub element_count : {A : Type 0} → CstRootNode A → CstNode → ℕ
element_count d node = length (elements_at (nodes_of d) (number_of node))

-- why nothing was inserted
abbrev pub InsertError : {A : Type 0} → CstRootNode A → CstNode → EditError → Type 0
InsertError d node e = e ≡ refusal (nodes_of d) (number_of node)
