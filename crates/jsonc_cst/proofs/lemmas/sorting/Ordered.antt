-- What a sort without groups makes is in order.
use Rattle.std.proofs.Common.{◌≡◌, ℕ, Bool, false, List, Option, Result, Ok, Err, OnOk, subst}
use Rattle.std.specs.declared.cmp.Ordering.{Ordering}
use denote.Ref.{Bor}
use denote.Param.Members.{Shared}
use Rattle.jsonc_tree.specs.Tree.{IsTree}
use Rattle.jsonc_text.specs.declared.edit.EditError.{EditError}
use Rattle.jsonc_sort.specs.Rearranged.{headers_of}
use Rattle.jsonc_cst.specs.declared.cst.CstRootNode.{CstRootNode}
use Rattle.jsonc_cst.specs.declared.cst.node.CstArray.{CstArray}
use Rattle.jsonc_cst.specs.declared.cst.node.CstNode.{CstNode}
use Rattle.jsonc_cst.specs.declared.cst.node.CstObject.{CstObject}
use Rattle.jsonc_cst.specs.declared.cst.node.CstObjectProp.{CstObjectProp}
use Rattle.jsonc_cst.specs.Document.{nodes_of, HasNode}
use Rattle.jsonc_cst.specs.Nodes.{array_node, object_node, object_prop_node}
use Rattle.jsonc_cst.specs.sorting.Again.{ElementsStayInKeyOrder, ElementsStayInOrder, PropertiesStayInKeyOrder, PropertiesStayInOrder}
use Rattle.jsonc_cst.specs.sorting.Asking.{IsInItsOrder, IsInKeyOrder}
use Rattle.jsonc_cst.specs.sorting.Rows.{elements_asked, properties_asked, starts_of}
use Rattle.jsonc_cst.specs.sorting.Sorted.{ElementsSorted, HasSorted, PropertiesSorted}
use Rattle.jsonc_cst.proofs.lemmas.sorting.Again.{elements_sort_once, properties_sort_once}
use Rattle.jsonc_cst.proofs.lemmas.sorting.AgainByKey.{elements_sort_once_by_key, properties_sort_once_by_key}

module _ {A F D T E : Type 0} (compare : F) (same : CstRootNode A → D) (old new : CstRootNode A) (groups : Bool) (r : Result T E) where
  pub elements_in_order : (g : Shared F (Bor D × (CstNode × (CstNode × Unit {0}))) Ordering) (array : CstArray) (pins : CstNode → List (Option CstNode) → List (Option ℕ) → Type 0)
      → IsTree (nodes_of old) → HasNode old (array_node array) → OnOk r (ElementsSorted old new array pins groups (IsInItsOrder g compare (same old) (HasNode old)))
      → groups ≡ false → OnOk r (ElementsStayInOrder compare same old new g array)
  elements_in_order g array pins tree there = stays r
    where
      stays : (r : Result T E) → OnOk r (ElementsSorted old new array pins groups (IsInItsOrder g compare (same old) (HasNode old))) → groups ≡ false → OnOk r (ElementsStayInOrder compare same old new g array)
      stays (Err e) sorted flat = tt
      stays (Ok x) (ps, are, s) flat = λ lt o by more next k again.
          elements_sort_once compare same lt old new next (headers_of ps groups) k g array o tree there by
          (subst (λ (b : Bool). HasSorted old new (array_node array) (headers_of ps groups) (IsInItsOrder g compare (same old) (HasNode old) (elements_asked old (array_node array)) (starts_of old (array_node array) b))) flat s)
          more again

  pub properties_in_order : (g : Shared F (Bor D × (CstObjectProp × (CstObjectProp × Unit {0}))) Ordering) (object : CstObject) (pins : CstNode → List (Option CstObjectProp) → List (Option ℕ) → Type 0)
      → IsTree (nodes_of old) → HasNode old (object_node object) → OnOk r (PropertiesSorted old new object pins groups (IsInItsOrder g compare (same old) (λ (p : CstObjectProp). HasNode old (object_prop_node p))))
      → groups ≡ false → OnOk r (PropertiesStayInOrder compare same old new g object)
  properties_in_order g object pins tree there = stays r
    where
      stays : (r : Result T E) → OnOk r (PropertiesSorted old new object pins groups (IsInItsOrder g compare (same old) (λ (p : CstObjectProp). HasNode old (object_prop_node p)))) → groups ≡ false → OnOk r (PropertiesStayInOrder compare same old new g object)
      stays (Err e) sorted flat = tt
      stays (Ok x) (ps, are, s) flat = λ lt o by more next k again.
          properties_sort_once compare same lt old new next (headers_of ps groups) k g object o tree there by
          (subst (λ (b : Bool). HasSorted old new (object_node object) (headers_of ps groups) (IsInItsOrder g compare (same old) (λ (p : CstObjectProp). HasNode old (object_prop_node p)) (properties_asked old (object_node object)) (starts_of old (object_node object) b))) flat s)
          more again

module _ {A F D K T E : Type 0} (key : F) (same : CstRootNode A → D) (cmp : K → K → Ordering) (old new : CstRootNode A) (groups : Bool) (r : Result T E) where
  pub elements_in_key_order : (g : Shared F (Bor D × (CstNode × Unit {0})) (Result K EditError)) (array : CstArray) (pins : CstNode → List (Option CstNode) → List (Option ℕ) → Type 0)
      → IsTree (nodes_of old) → IsTree (nodes_of new) → HasNode old (array_node array) → OnOk r (ElementsSorted old new array pins groups (IsInKeyOrder g key (same old) cmp))
      → groups ≡ false → OnOk r (ElementsStayInKeyOrder key same cmp old new g array)
  elements_in_key_order g array pins tree after there = stays r
    where
      stays : (r : Result T E) → OnOk r (ElementsSorted old new array pins groups (IsInKeyOrder g key (same old) cmp)) → groups ≡ false → OnOk r (ElementsStayInKeyOrder key same cmp old new g array)
      stays (Err e) sorted flat = tt
      stays (Ok x) (ps, are, s) flat = λ lt o by more next k again.
          elements_sort_once_by_key key same cmp lt old new next (headers_of ps groups) k g array o tree after there by
          (subst (λ (b : Bool). HasSorted old new (array_node array) (headers_of ps groups) (IsInKeyOrder g key (same old) cmp (elements_asked old (array_node array)) (starts_of old (array_node array) b))) flat s)
          more again

  pub properties_in_key_order : (g : Shared F (Bor D × (CstObjectProp × Unit {0})) (Result K EditError)) (object : CstObject) (pins : CstNode → List (Option CstObjectProp) → List (Option ℕ) → Type 0)
      → IsTree (nodes_of old) → IsTree (nodes_of new) → HasNode old (object_node object) → OnOk r (PropertiesSorted old new object pins groups (IsInKeyOrder g key (same old) cmp))
      → groups ≡ false → OnOk r (PropertiesStayInKeyOrder key same cmp old new g object)
  properties_in_key_order g object pins tree after there = stays r
    where
      stays : (r : Result T E) → OnOk r (PropertiesSorted old new object pins groups (IsInKeyOrder g key (same old) cmp)) → groups ≡ false → OnOk r (PropertiesStayInKeyOrder key same cmp old new g object)
      stays (Err e) sorted flat = tt
      stays (Ok x) (ps, are, s) flat = λ lt o by more next k again.
          properties_sort_once_by_key key same cmp lt old new next (headers_of ps groups) k g object o tree after there by
          (subst (λ (b : Bool). HasSorted old new (object_node object) (headers_of ps groups) (IsInKeyOrder g key (same old) cmp (properties_asked old (object_node object)) (starts_of old (object_node object) b))) flat s)
          more again
