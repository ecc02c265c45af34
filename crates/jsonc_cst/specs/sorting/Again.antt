-- Second sorts of typed arrays and objects, by closures that answer by what the nodes are, each with what is below it.
use Rattle.std.specs.Prelude.{◌≡◌, Bool, false, List, Option}
use Rattle.std.specs.Cmp.{IsStrictWeakOrder}
use Rattle.std.specs.Ordering.{is_lt}
use Rattle.std.specs.declared.cmp.Ordering.{Ordering}
use Rattle.std.specs.declared.result.Result.{Result}
use Rattle.std.specs.declared.result.Result.TheVariants.{Ok}
use denote.Ref.{Bor}
use denote.Param.Members.{Shared}
use Rattle.jsonc_tree.specs.OrderedTree.{Top}
use Rattle.jsonc_tree.specs.Tree.{IsTree}
use Rattle.jsonc_edit.specs.Changes.{top_at}
use Rattle.jsonc_text.specs.declared.edit.EditError.{EditError}
use Rattle.jsonc_sort.specs.ordering.Asking.{ComparesBy}
use Rattle.jsonc_sort.specs.ordering.Keys.{Answers}
use Rattle.jsonc_sort.specs.Sorting.{Headers}
use Rattle.jsonc_cst.specs.declared.cst.CstRootNode.{CstRootNode}
use Rattle.jsonc_cst.specs.declared.cst.node.CstArray.{CstArray}
use Rattle.jsonc_cst.specs.declared.cst.node.CstNode.{CstNode}
use Rattle.jsonc_cst.specs.declared.cst.node.CstObject.{CstObject}
use Rattle.jsonc_cst.specs.declared.cst.node.CstObjectProp.{CstObjectProp}
use Rattle.jsonc_cst.specs.Document.{nodes_of, printed_of, HasNode}
use Rattle.jsonc_cst.specs.Nodes.{array_node, number_of, object_node, object_prop_node}
use Rattle.jsonc_cst.specs.sorting.Asking.{IsInItsOrder, IsInKeyOrder}
use Rattle.jsonc_cst.specs.sorting.Rows.{elements_asked, properties_asked, starts_of}
use Rattle.jsonc_cst.specs.sorting.Sorted.{HasSorted}

module _ {A : Type 0} where
  -- what a node of a document is, with what is below it
  abbrev pub top_of : CstRootNode A → CstNode → Top
  top_of d node = top_at (nodes_of d) (number_of node)

  module _ {F D N : Type 0} (g : Shared F (Bor D × (N × (N × Unit {0}))) Ordering) (compare : F) (same : CstRootNode A → D) (node_of : N → CstNode) where
    -- of this document and its nodes a comparison answers by an order of what these are
    abbrev pub ComparesTops : (Top → Top → Bool) → CstRootNode A → Type 0
    ComparesTops lt d = ComparesBy g compare (same d) (λ x. HasNode d (node_of x)) (λ x y. lt (top_of d (node_of x)) (top_of d (node_of y)))

    -- a container of the document has been sorted by it, without groups
    abbrev pub IsSortedBy : CstRootNode A → CstRootNode A → CstNode → List (Option N) → Headers → Type 0
    IsSortedBy old new container nodes h =
        HasSorted old new container h (IsInItsOrder g compare (same old) (λ x. HasNode old (node_of x)) nodes (starts_of old container false))

  module _ {F D N K : Type 0} (g : Shared F (Bor D × (N × Unit {0})) (Result K EditError)) (key : F) (same : CstRootNode A → D) (node_of : N → CstNode)
      (cmp : K → K → Ordering) where
    -- the keys that are given of nodes of this document are in an order of what the nodes are
    pub record KeysCompareTops (lt : Top → Top → Bool) (d : CstRootNode A) : Type 0 where
      pub agree : (x y : N) (k l : K) → HasNode d (node_of x) → HasNode d (node_of y) → Answers g key (same d) x (Ok k) → Answers g key (same d) y (Ok l)
          → is_lt (cmp k l) ≡ lt (top_of d (node_of x)) (top_of d (node_of y))

    -- a container of the document has been sorted by them, without groups
    abbrev pub IsSortedByKey : CstRootNode A → CstRootNode A → CstNode → List (Option N) → Headers → Type 0
    IsSortedByKey old new container nodes h = HasSorted old new container h (IsInKeyOrder g key (same old) cmp nodes (starts_of old container false))

  -- where an array has been sorted by an order of what its elements are, a second sort by it changes no byte; and so of an object
  abbrev pub IsUntouched : CstRootNode A → CstRootNode A → Type 0
  IsUntouched old new = (nodes_of new ≡ nodes_of old) × (printed_of new ≡ printed_of old)

  abbrev pub ElementsSortOnce : {F D : Type 0} → Shared F (Bor D × (CstNode × (CstNode × Unit {0}))) Ordering → F → (CstRootNode A → D) → (Top → Top → Bool)
      → CstRootNode A → CstRootNode A → CstRootNode A → CstArray → Headers → Headers → Type 0
  ElementsSortOnce g compare same lt old now new array h k =
      IsStrictWeakOrder lt → IsTree (nodes_of old) → HasNode old (array_node array)
      → ComparesTops g compare same (λ x. x) lt old → IsSortedBy g compare same (λ x. x) old now (array_node array) (elements_asked old (array_node array)) h
      → ComparesTops g compare same (λ x. x) lt now → IsSortedBy g compare same (λ x. x) now new (array_node array) (elements_asked now (array_node array)) k
      → IsUntouched now new

  abbrev pub PropertiesSortOnce : {F D : Type 0} → Shared F (Bor D × (CstObjectProp × (CstObjectProp × Unit {0}))) Ordering → F → (CstRootNode A → D)
      → (Top → Top → Bool) → CstRootNode A → CstRootNode A → CstRootNode A → CstObject → Headers → Headers → Type 0
  PropertiesSortOnce g compare same lt old now new object h k =
      IsStrictWeakOrder lt → IsTree (nodes_of old) → HasNode old (object_node object)
      → ComparesTops g compare same object_prop_node lt old
      → IsSortedBy g compare same object_prop_node old now (object_node object) (properties_asked old (object_node object)) h
      → ComparesTops g compare same object_prop_node lt now
      → IsSortedBy g compare same object_prop_node now new (object_node object) (properties_asked now (object_node object)) k
      → IsUntouched now new

  -- and so where they have been sorted by keys
  abbrev pub ElementsSortOnceByKey : {F D K : Type 0} → Shared F (Bor D × (CstNode × Unit {0})) (Result K EditError) → F → (CstRootNode A → D)
      → (K → K → Ordering) → (Top → Top → Bool) → CstRootNode A → CstRootNode A → CstRootNode A → CstArray → Headers → Headers → Type 0
  ElementsSortOnceByKey g key same cmp lt old now new array h k =
      IsStrictWeakOrder lt → IsTree (nodes_of old) → IsTree (nodes_of now) → HasNode old (array_node array)
      → KeysCompareTops g key same (λ x. x) cmp lt old
      → IsSortedByKey g key same (λ x. x) cmp old now (array_node array) (elements_asked old (array_node array)) h
      → KeysCompareTops g key same (λ x. x) cmp lt now
      → IsSortedByKey g key same (λ x. x) cmp now new (array_node array) (elements_asked now (array_node array)) k
      → IsUntouched now new

  abbrev pub PropertiesSortOnceByKey : {F D K : Type 0} → Shared F (Bor D × (CstObjectProp × Unit {0})) (Result K EditError) → F → (CstRootNode A → D)
      → (K → K → Ordering) → (Top → Top → Bool) → CstRootNode A → CstRootNode A → CstRootNode A → CstObject → Headers → Headers → Type 0
  PropertiesSortOnceByKey g key same cmp lt old now new object h k =
      IsStrictWeakOrder lt → IsTree (nodes_of old) → IsTree (nodes_of now) → HasNode old (object_node object)
      → KeysCompareTops g key same object_prop_node cmp lt old
      → IsSortedByKey g key same object_prop_node cmp old now (object_node object) (properties_asked old (object_node object)) h
      → KeysCompareTops g key same object_prop_node cmp lt now
      → IsSortedByKey g key same object_prop_node cmp now new (object_node object) (properties_asked now (object_node object)) k
      → IsUntouched now new

-- What a sort makes is in order: if what was asked answers before and after by one order of what the elements are, any further sort by it, whatever comments
-- are pinned, changes no byte. So of an array that was sorted by a comparison, and an object; and by keys.
module _ {A F D : Type 0} (compare : F) (same : CstRootNode A → D) (old new : CstRootNode A) where
  abbrev pub ElementsStayInOrder : Shared F (Bor D × (CstNode × (CstNode × Unit {0}))) Ordering → CstArray → Type 0
  ElementsStayInOrder g array =
      (lt : Top → Top → Bool) → IsStrictWeakOrder lt → ComparesTops g compare same (λ x. x) lt old → ComparesTops g compare same (λ x. x) lt new
      → (next : CstRootNode A) (k : Headers) → IsSortedBy g compare same (λ x. x) new next (array_node array) (elements_asked new (array_node array)) k
      → IsUntouched new next

  abbrev pub PropertiesStayInOrder : Shared F (Bor D × (CstObjectProp × (CstObjectProp × Unit {0}))) Ordering → CstObject → Type 0
  PropertiesStayInOrder g object =
      (lt : Top → Top → Bool) → IsStrictWeakOrder lt → ComparesTops g compare same object_prop_node lt old → ComparesTops g compare same object_prop_node lt new
      → (next : CstRootNode A) (k : Headers) → IsSortedBy g compare same object_prop_node new next (object_node object) (properties_asked new (object_node object)) k
      → IsUntouched new next

module _ {A F D K : Type 0} (key : F) (same : CstRootNode A → D) (cmp : K → K → Ordering) (old new : CstRootNode A) where
  abbrev pub ElementsStayInKeyOrder : Shared F (Bor D × (CstNode × Unit {0})) (Result K EditError) → CstArray → Type 0
  ElementsStayInKeyOrder g array =
      (lt : Top → Top → Bool) → IsStrictWeakOrder lt → KeysCompareTops g key same (λ x. x) cmp lt old → KeysCompareTops g key same (λ x. x) cmp lt new
      → (next : CstRootNode A) (k : Headers) → IsSortedByKey g key same (λ x. x) cmp new next (array_node array) (elements_asked new (array_node array)) k
      → IsUntouched new next

  abbrev pub PropertiesStayInKeyOrder : Shared F (Bor D × (CstObjectProp × Unit {0})) (Result K EditError) → CstObject → Type 0
  PropertiesStayInKeyOrder g object =
      (lt : Top → Top → Bool) → IsStrictWeakOrder lt → KeysCompareTops g key same object_prop_node cmp lt old → KeysCompareTops g key same object_prop_node cmp lt new
      → (next : CstRootNode A) (k : Headers) → IsSortedByKey g key same object_prop_node cmp new next (object_node object) (properties_asked new (object_node object)) k
      → IsUntouched new next
