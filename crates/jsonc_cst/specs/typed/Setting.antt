-- What sets a document's value, and replaces a property by another.
use Rattle.std.specs.Prelude.{◌≡◌, ℕ, List, Option, Some, None}
use Rattle.jsonc_text.specs.Plain.{Plain}
use Rattle.jsonc_text.specs.declared.edit.Shape.{Shape}
use Rattle.jsonc_tree.specs.Tree.{Node}
use Rattle.jsonc_layout.specs.nodes.Properties.{value_at}
use Rattle.jsonc_edit.specs.Reading.{IsReplaced}
use Rattle.jsonc_edit.specs.set.Giving.{IsPropertyReplaced}
use Rattle.jsonc_edit.specs.set.Kinds.{FoundOrCreated, FoundOrSet}
use Rattle.jsonc_edit.specs.set.RootSet.{FirstValue}
use Rattle.jsonc_edit.specs.set.Shapes.{empty_of, is_of}
use Rattle.jsonc_cst.specs.declared.cst.CstRootNode.{CstRootNode}
use Rattle.jsonc_cst.specs.declared.cst.node.CstNode.{CstNode}
use Rattle.jsonc_cst.specs.Document.{nodes_of}
use Rattle.jsonc_cst.specs.Nodes.{number_of}
use Rattle.jsonc_cst.specs.Readings.{typed_if}
use Rattle.jsonc_cst.specs.typed.Around.{IsLaidProperty}

-- the root's value, if there was one, has been replaced by v, and else v has been set as the first: it is the node m now
abbrev pub ValueBecomes : List Node → List Node → Plain → Option ℕ → ℕ → Type 0
ValueBecomes old new v None m = FirstValue old new v m
ValueBecomes old new v (Some n) m = IsReplaced old new n v m

-- the node is the value of the root
abbrev pub IsRootValue : List Node → CstNode → Type 0
IsRootValue ns node = typed_if ns (value_at ns 0) ≡ Some node

module _ (old new : List Node) where
  -- v has become the value of the root, which is this node
  abbrev pub RootBecomes : Plain → CstNode → Type 0
  RootBecomes v now = ValueBecomes old new v (value_at old 0) (number_of now)

  -- the root's value, if it is of the shape; an empty one has been set where there was none; and there is none where the value is another
  abbrev pub FindsOrCreates : Shape → Option ℕ → Type 0
  FindsOrCreates shape answer = FoundOrCreated (is_of shape) (empty_of shape) old new (value_at old 0) answer

  -- the root's value, if it is of the shape; else an empty one has become it
  abbrev pub FindsOrSets : Shape → ℕ → Type 0
  FindsOrSets shape answer = FoundOrSet (is_of shape) (empty_of shape) old new (value_at old 0) answer

  -- the property n has been replaced by one of this name and value, which is this node
  abbrev pub PropertyBecomes : ℕ → List ℕ → Plain → CstNode → Type 0
  PropertyBecomes n name v now = IsPropertyReplaced old new n name v (number_of now)

-- the same of a document
module _ {A : Type 0} (old new : CstRootNode A) where
  abbrev pub HasBecomeProperty : CstNode → List ℕ → Plain → CstNode → Type 0
  HasBecomeProperty node name v now = PropertyBecomes (nodes_of old) (nodes_of new) (number_of node) name v now

  abbrev pub IsLaidAsProperty : CstNode → List ℕ → Plain → CstNode → Type 0
  IsLaidAsProperty node name v now = IsLaidProperty (nodes_of old) (nodes_of new) (number_of node) name v (number_of now)
