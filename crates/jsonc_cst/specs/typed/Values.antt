-- What sets the value of a property, and a truth value.
use Rattle.std.specs.Prelude.{◌≡◌, ℕ, Bool, List, Option, Some, None}
use Rattle.jsonc_text.specs.Plain.{Plain}
use Rattle.jsonc_text.specs.declared.edit.Shape.{Shape}
use Rattle.jsonc_tree.specs.Tree.{Node, parent_at}
use Rattle.jsonc_layout.specs.nodes.Properties.{value_at}
use Rattle.jsonc_edit.specs.Reading.{IsReplaced}
use Rattle.jsonc_edit.specs.set.Booleans.{BooleanSet}
use Rattle.jsonc_edit.specs.set.PropertyValues.{HeldOrSet, LastValue}
use Rattle.jsonc_edit.specs.set.Shapes.{empty_of, is_of}
use Rattle.jsonc_cst.specs.declared.cst.CstRootNode.{CstRootNode}
use Rattle.jsonc_cst.specs.declared.cst.node.CstNode.{CstNode}
use Rattle.jsonc_cst.specs.Document.{nodes_of}
use Rattle.jsonc_cst.specs.Nodes.{number_of}

-- the value that the property p held, if it held one, has been replaced by v, and else v has been inserted after all that it holds: it is the node m now
abbrev pub HeldBecomes : List Node → List Node → ℕ → Plain → Option ℕ → ℕ → Type 0
HeldBecomes old new p v None m = LastValue old new p v m
HeldBecomes old new p v (Some n) m = IsReplaced old new n v m

-- the node is a child of the container p
abbrev pub IsUnder : List Node → ℕ → CstNode → Type 0
IsUnder ns p node = parent_at ns (number_of node) ≡ Some p

module _ (old new : List Node) where
  -- v has become the value of the property p, which is this node
  abbrev pub ValueIs : ℕ → Plain → CstNode → Type 0
  ValueIs p v now = HeldBecomes old new p v (value_at old p) (number_of now)

  -- the value of the property p, if it is of the shape; else an empty one has become it
  abbrev pub FindsOrSetsHeld : Shape → ℕ → ℕ → Type 0
  FindsOrSetsHeld shape p answer = HeldOrSet (is_of shape) (empty_of shape) old new p (value_at old p) answer

-- the same of a document
abbrev pub IsChildOf : {A : Type 0} → CstRootNode A → CstNode → CstNode → Type 0
IsChildOf d container node = IsUnder (nodes_of d) (number_of container) node

module _ {A : Type 0} (old new : CstRootNode A) where
  abbrev pub NodeValueIs : CstNode → Plain → CstNode → Type 0
  NodeValueIs node v now = ValueIs (nodes_of old) (nodes_of new) (number_of node) v now

  abbrev pub NowHolds : Shape → CstNode → ℕ → Type 0
  NowHolds shape node answer = FindsOrSetsHeld (nodes_of old) (nodes_of new) shape (number_of node) answer

  abbrev pub HasSetBoolean : CstNode → Bool → Type 0
  HasSetBoolean node b = BooleanSet (nodes_of old) (nodes_of new) (number_of node) b
