-- What a sort makes of a document.
use Rattle.std.specs.Prelude.{◌≡◌, ◌<◌, ℕ, Bool, true, List, length, Option}
use Rattle.jsonc_tree.specs.Tree.{Node}
use Rattle.jsonc_layout.specs.nodes.Siblings.{elements_at}
use Rattle.jsonc_edit.specs.Paths.{IsAt}
use Rattle.jsonc_run.specs.promise.Steps.{IsStep}
use Rattle.jsonc_run.specs.Edits.{rearrange}
use Rattle.jsonc_cst.specs.typed.Edits.{KeepsDocumentOf}
use Rattle.jsonc_sort.specs.Above.{PinsUnderBlankLines}
use Rattle.jsonc_sort.specs.Rearranged.{IsOrderIn, Rearranged, headers_of}
use Rattle.jsonc_sort.specs.Sorting.{Headers}
use Rattle.jsonc_cst.specs.declared.cst.CstRootNode.{CstRootNode}
use Rattle.jsonc_cst.specs.declared.cst.node.CstArray.{CstArray}
use Rattle.jsonc_cst.specs.declared.cst.node.CstNode.{CstNode}
use Rattle.jsonc_cst.specs.declared.cst.node.CstObject.{CstObject}
use Rattle.jsonc_cst.specs.declared.cst.node.CstObjectProp.{CstObjectProp}
use Rattle.jsonc_cst.specs.Document.{nodes_of}
use Rattle.jsonc_cst.specs.Nodes.{array_node, number_of, object_node}
use Rattle.jsonc_cst.specs.sorting.Pins.{pins_where}
use Rattle.jsonc_cst.specs.sorting.Rows.{elements_asked, properties_asked, starts_of}

-- The elements of c are in the order now, with what belongs to them. Where there are less than two, no node has changed; where c is not in the document, nothing of
-- this has, and where it is, that is one step; by blank lines, where comments are pinned only under these.
pub record IsPlaced (old new : List Node) (c : ℕ) (h : Headers) (order : List ℕ) : Type 0 where
  pub all : IsOrderIn old c order
  pub made : Rearranged old new c h order
  pub few : length (elements_at old c) < 2 → new ≡ old
  pub detached : KeepsDocumentOf old new c
  pub step : (by_blank_lines : Bool) → (by_blank_lines ≡ true → PinsUnderBlankLines old c h) → IsStep IsAt (λ path. rearrange by_blank_lines path h order) old new c

-- they are in an order that is required
pub record HasSorted {A : Type 0} (old new : CstRootNode A) (node : CstNode) (h : Headers) (IsRequired : List ℕ → Type 0) : Type 0 where
  pub order : List ℕ
  pub required : IsRequired order
  pub placed : IsPlaced (nodes_of old) (nodes_of new) (number_of node) h order

-- so many comments are pinned above each as a rule has said, and blank lines part the elements, or do not
abbrev pub HasSortedBy : {A : Type 0} → CstRootNode A → CstRootNode A → CstNode → (List (Option ℕ) → Type 0) → Bool → (List ℕ → Type 0) → Type 0
HasSortedBy old new node ArePinned groups IsRequired =
    (pins : List (Option ℕ)) × ArePinned pins × HasSorted old new node (headers_of pins groups) IsRequired

-- So the elements of an array, by what a rule pins of them and what is required of them and their groups; and the properties of an object.
abbrev pub ElementsSorted : {A : Type 0} → CstRootNode A → CstRootNode A → CstArray → (CstNode → List (Option CstNode) → List (Option ℕ) → Type 0)
    → Bool → (List (Option CstNode) → List ℕ → List ℕ → Type 0) → Type 0
ElementsSorted old new array ArePinned groups IsRequired =
    HasSortedBy old new (array_node array) (ArePinned (array_node array) (elements_asked old (array_node array))) groups
    (IsRequired (elements_asked old (array_node array)) (starts_of old (array_node array) groups))

abbrev pub PropertiesSorted : {A : Type 0} → CstRootNode A → CstRootNode A → CstObject → (CstNode → List (Option CstObjectProp) → List (Option ℕ) → Type 0)
    → Bool → (List (Option CstObjectProp) → List ℕ → List ℕ → Type 0) → Type 0
PropertiesSorted old new object ArePinned groups IsRequired =
    HasSortedBy old new (object_node object) (ArePinned (object_node object) (properties_asked old (object_node object))) groups
    (IsRequired (properties_asked old (object_node object)) (starts_of old (object_node object) groups))

-- So an array or object, with comments pinned by blank lines or not, and blank lines that part its entries or do not, by what is required of these and their groups.
abbrev pub ContainerSorted : {A : Type 0} → CstRootNode A → CstRootNode A → CstNode → Bool → Bool → (List (Option CstNode) → List ℕ → List ℕ → Type 0) → Type 0
ContainerSorted old new node pin groups IsRequired =
    HasSorted old new node (headers_of (pins_where old node pin) groups) (IsRequired (elements_asked old node) (starts_of old node groups))
