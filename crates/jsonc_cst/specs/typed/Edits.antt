-- What an edit makes of a document: in which node a child is replaced by a value, and which nodes the document still has.
use Rattle.std.specs.Prelude.{◌≡◌, ◌==◌, ℕ, Bool, true, false, List, length, Option, Some, None, if◌then◌else◌}
use Rattle.jsonc_text.specs.Plain.{Plain}
use Rattle.jsonc_tree.specs.Building.{Keeps}
use Rattle.jsonc_tree.specs.OrderedTree.{ordered_tree}
use Rattle.jsonc_tree.specs.Tree.{Node, content_at, parent_at, place_at, IsOver}
use Rattle.jsonc_layout.specs.nodes.Kinds.{is_property}
use Rattle.jsonc_layout.specs.nodes.Properties.{name_at}
use Rattle.jsonc_edit.specs.Reading.{IsReplaced, IsReplacedRaw}
use Rattle.jsonc_cst.specs.declared.cst.CstRootNode.{CstRootNode}
use Rattle.jsonc_cst.specs.declared.cst.node.CstNode.{CstNode}
use Rattle.jsonc_cst.specs.Document.{nodes_of}
use Rattle.jsonc_cst.specs.Nodes.{number_of, IsNodeOf}
use Rattle.jsonc_cst.specs.typed.Around.{StaysAroundValue}
use Rattle.jsonc_cst.specs.typed.Marked.{IsMarkedFor}

-- every node that is there is there still
abbrev pub NodesStillThere : List Node → List Node → Type 0
NodesStillThere old new = (node : CstNode) → IsNodeOf old node → IsNodeOf new node

-- every node that was there is as it was: what it is, its parent and its children; so what is apart from the document is printed as it was too
abbrev pub NodesUnchanged : List Node → List Node → Type 0
NodesUnchanged old new = Keeps (length old) old new

-- the node is detached, and so its place is 0
abbrev pub IsDetached : List Node → ℕ → Type 0
IsDetached ns n = (parent_at ns n ≡ None) × (place_at ns n ≡ 0)

-- where the node is not in the document, as it is part of what was removed or has been replaced, the document is what it was
abbrev pub KeepsDocumentOf : List Node → List Node → ℕ → Type 0
KeepsDocumentOf old new n = (IsOver old 0 n → ⊥) → ordered_tree new 0 ≡ ordered_tree old 0

-- whether the first number is there and is the second
abbrev pub is_found : Option ℕ → ℕ → Bool
is_found None n = false
is_found (Some m) n = m == n

-- whether the node is a name, by the parent that it has
abbrev pub is_name_under : List Node → Option ℕ → ℕ → Bool
is_name_under ns None n = false
is_name_under ns (Some p) n = if is_property (content_at ns p) then is_found (name_at ns p) n else false

-- whether the node is the name of the property that it is in
abbrev pub is_name_in : List Node → ℕ → Bool
is_name_in ns n = is_name_under ns (parent_at ns n) n

-- the child n has been replaced by m, which is the value, laid out as the old nodes determine: a space is inserted where one is needed, but none for a name
abbrev pub IsReplacedAs : Bool → List Node → List Node → ℕ → Plain → ℕ → Type 0
IsReplacedAs true old new n v m = IsReplacedRaw old new n v m
IsReplacedAs false old new n v m = IsReplaced old new n v m

module _ {A : Type 0} (old new : CstRootNode A) where
  -- every node of the old document is one of the new document too
  abbrev pub HandlesStay : Type 0
  HandlesStay = NodesStillThere (nodes_of old) (nodes_of new)

  -- every node of the old document is as it was, in the document and apart from it
  abbrev pub Unchanged : Type 0
  Unchanged = NodesUnchanged (nodes_of old) (nodes_of new)

  -- no node is another than it was
  abbrev pub IsUntouched : Type 0
  IsUntouched = nodes_of new ≡ nodes_of old

  -- the node has been replaced by a new one, which is the value, laid out as the old document determines
  abbrev pub IsReplacedBy : CstNode → Plain → CstNode → Type 0
  IsReplacedBy node v now = IsReplacedAs (is_name_in (nodes_of old) (number_of node)) (nodes_of old) (nodes_of new) (number_of node) v (number_of now)

  -- where the node was at a path, its literals and comments have been replaced by the literals that are written for the value, and all others stay, in order
  abbrev pub HasMarked : CstNode → Plain → Type 0
  HasMarked node v = is_name_in (nodes_of old) (number_of node) ≡ false → IsMarkedFor (nodes_of old) (nodes_of new) (number_of node) v

  -- and all leaves around its own stay, but for the spaces that were inserted
  abbrev pub HasStayedAround : CstNode → Plain → Type 0
  HasStayedAround node v = is_name_in (nodes_of old) (number_of node) ≡ false → StaysAroundValue (nodes_of old) (nodes_of new) (number_of node) v

  -- where the node is not in the document, this is what it was
  abbrev pub KeepsDocument : CstNode → Type 0
  KeepsDocument node = KeepsDocumentOf (nodes_of old) (nodes_of new) (number_of node)

  -- the node is detached
  abbrev pub NodeIsDetached : CstNode → Type 0
  NodeIsDetached node = IsDetached (nodes_of new) (number_of node)
