-- Properties that are inserted into objects.
use Rattle.std.specs.Prelude.{ℕ, List, length, min}
use Rattle.jsonc_text.specs.Plain.{Plain}
use Rattle.jsonc_tree.specs.Tree.{Node}
use Rattle.jsonc_layout.specs.nodes.Siblings.{elements_at}
use Rattle.jsonc_edit.specs.Paths.{IsAt, IsElementOf}
use Rattle.jsonc_insert.specs.members.Inserted.{PropertyPut}
use Rattle.jsonc_cst.specs.declared.cst.CstRootNode.{CstRootNode}
use Rattle.jsonc_cst.specs.declared.cst.node.CstNode.{CstNode}
use Rattle.jsonc_cst.specs.declared.cst.node.CstObjectProp.{CstObjectProp}
use Rattle.jsonc_cst.specs.Document.{nodes_of}
use Rattle.jsonc_cst.specs.Nodes.{number_of}
use Rattle.jsonc_run.specs.promise.Steps.{IsStep}
use Rattle.jsonc_run.specs.Edits.{insert_property, append_property}

module _ (old new : List Node) where
  -- the property of this name and value has been inserted into the object c at this number, or after its last property where it has fewer: it is this node
  abbrev pub NamedInsertedAt : ℕ → ℕ → List ℕ → Plain → CstObjectProp → Type 0
  NamedInsertedAt c i name v now = PropertyPut old new c i name v now.number

-- Which edit that is, where c is an object in the document.
module _ (old new : List Node) where
  abbrev pub IsInsertingNamed : ℕ → ℕ → List ℕ → Plain → Type 0
  IsInsertingNamed c i name v = IsStep IsAt (λ path. insert_property path i name v) old new c

  abbrev pub IsAppendingNamed : ℕ → List ℕ → Plain → Type 0
  IsAppendingNamed c name v = IsStep IsAt (λ path. append_property path name v) old new c

-- the same of a document
module _ {A : Type 0} (old new : CstRootNode A) where
  abbrev pub HasInsertedProperty : CstNode → ℕ → List ℕ → Plain → CstObjectProp → Type 0
  HasInsertedProperty node i name v now = NamedInsertedAt (nodes_of old) (nodes_of new) (number_of node) i name v now

  -- it is the property of this number in it, or the last
  abbrev pub IsItsProperty : CstNode → ℕ → CstObjectProp → Type 0
  IsItsProperty node i now = IsElementOf (nodes_of new) (number_of node) (min i (length (elements_at (nodes_of old) (number_of node)))) now.number
