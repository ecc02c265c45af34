-- Second sorts of typed arrays and objects by keys.
use Rattle.std.proofs.Common.{◌≡◌, ◌<◌, ◌≤◌, ◌||◌, ◌&&◌, ◌==◌, inl, inr, ℕ, zero, suc, Bool, List, [], ◌∷◌, length, map, Option, Some, None, option_map, refl, sym, ap, subst, ◌∙◌, arith}
use Rattle.std.specs.Prelude.{nat_lt}
use Rattle.std.specs.Cmp.{IsStrictWeakOrder}
use Rattle.std.specs.Ordering.{is_lt}
use Rattle.std.specs.declared.cmp.Ordering.{Ordering}
use Rattle.std.specs.declared.result.Result.{Result}
use Rattle.std.proofs.lemmas.Bool.{cases_lt}
use Rattle.std.proofs.lemmas.List.{get_or_past}
use Rattle.std.proofs.lemmas.List.Elements.{All-filter}
use denote.Ref.{Bor}
use denote.Param.Members.{Shared}
use Rattle.jsonc_tree.specs.Content.{Content}
use Rattle.jsonc_tree.specs.OrderedTree.{Top, ordered_tree, printed}
use Rattle.jsonc_tree.specs.Tree.{Node, children_at, content_at, IsTree}
use Rattle.jsonc_layout.specs.nodes.Kinds.{is_element_at, is_property}
use Rattle.jsonc_layout.specs.nodes.Siblings.{elements_at, AreThere}
use Rattle.jsonc_layout.proofs.lemmas.nodes.InTree.{children_there}
use Rattle.jsonc_edit.specs.Changes.{top_at}
use Rattle.jsonc_text.specs.declared.edit.EditError.{EditError}
use Rattle.jsonc_sort.specs.ordering.Keys.{AreKeys, IsKeyOf}
use Rattle.jsonc_sort.specs.ordering.Order.{comes_before, node_in, option_before, start_in, IsOrderedBy}
use Rattle.jsonc_sort.specs.Sorting.{Headers}
use Rattle.jsonc_cst.specs.declared.cst.CstRootNode.{CstRootNode}
use Rattle.jsonc_cst.specs.declared.cst.node.CstArray.{CstArray}
use Rattle.jsonc_cst.specs.declared.cst.node.CstNode.{CstNode}
use Rattle.jsonc_cst.specs.declared.cst.node.CstObject.{CstObject}
use Rattle.jsonc_cst.specs.declared.cst.node.CstObjectProp.{CstObjectProp}
use Rattle.jsonc_cst.specs.Document.{nodes_of, HasNode}
use Rattle.jsonc_cst.specs.Nodes.{array_node, number_of, object_node, object_prop_node, typed, typed_at, IsNodeOf}
use Rattle.jsonc_cst.specs.Readings.{property_under}
use Rattle.jsonc_cst.proofs.Family.{typed_held}
use Rattle.jsonc_cst.specs.sorting.Rows.{property_if}
use Rattle.jsonc_sort.specs.again.Again.{tops_asked, IsInOrderOf}
use Rattle.jsonc_sort.proofs.lemmas.again.SecondSort.{sorts_once}
use Rattle.jsonc_cst.specs.sorting.Again.{ElementsSortOnceByKey, IsSortedByKey, IsUntouched, KeysCompareTops, PropertiesSortOnceByKey}
use Rattle.jsonc_cst.proofs.lemmas.sorting.Again.{count, elements_picked, every, properties_picked, told_in, tops_of, Picks}

none_some : {T : Type 0} (x : T) → None ≡ Some x → ⊥
none_some x e = cc

only_one : {T : Type 0} (a x : T) → Some a ≡ Some x → x ≡ a
only_one a x e = cc

-- typed nodes for numbers, where they are asked: each is the node of its number
module _ {N : Type 0} (node_of : N → CstNode) (pick : CstNode → Option N) where
  abbrev Finds : Type 0
  Finds = (what : Content) (n : ℕ) (x : N) → pick (typed what n) ≡ Some x → node_of x ≡ typed what n

  held_in : Finds → (ns : List Node) (es : List ℕ) → AreThere ns es → (i : ℕ) (x : N) → node_in (map pick (map (typed_at ns) es)) i ≡ Some x → IsNodeOf ns (node_of x)
  held_in finds ns [] there i x e = absurd (none_some x e)
  held_in finds ns (n ∷ es) there zero x e = subst (IsNodeOf ns) (sym (finds (content_at ns n) n x e)) (typed_held ns n (there 0 0 (omega arith)))
  held_in finds ns (n ∷ es) there (suc i) x e = held_in finds ns es (λ k d l. there (suc k) d (omega (arith, l))) i x e

elements_there : (ns : List Node) (c : ℕ) → IsTree ns → AreThere ns (elements_at ns c)
elements_there ns c tree = All-filter (is_element_at ns) (λ m. m < length ns) (children_at ns c) (children_there ns tree c)

module _ {A F D N K : Type 0} (g : Shared F (Bor D × (N × Unit {0})) (Result K EditError)) (key : F) (same : CstRootNode A → D) (node_of : N → CstNode) (cmp : K → K → Ordering) (lt : Top → Top → Bool) where
  abbrev before : K → K → Bool
  before k l = is_lt (cmp k l)

  -- the keys of two nodes are in the order of what the nodes are
  module _ (d : CstRootNode A) (tell : KeysCompareTops g key same node_of cmp lt d) where
    abbrev told : N → Top
    told x = top_at (nodes_of d) (number_of (node_of x))

    abbrev IsHeld : Option N → Type 0
    IsHeld o = (x : N) → o ≡ Some x → HasNode d (node_of x)

    both : (x y : Option N) (k l : Option K) → IsHeld x → IsHeld y → IsKeyOf g key (same d) x k → IsKeyOf g key (same d) y l → option_before before k l ≡ option_before lt (option_map told x) (option_map told y)
    both (Some x) (Some y) k l hx hy kx ky =
        ap (λ (o : Option K). option_before before o l) kx.1 ∙ ap (λ (o : Option K). option_before before (Some kx.0) o) ky.1
        ∙ tell.agree x y kx.0 ky.0 (hx x refl) (hy y refl) kx.2 ky.2
    both (Some x) None k l hx hy kx ky = ap (λ (o : Option K). option_before before o l) kx.1 ∙ ap (λ (o : Option K). option_before before (Some kx.0) o) ky
    both None (Some y) k l hx hy kx ky = ap (λ (o : Option K). option_before before o l) kx ∙ ap (λ (o : Option K). option_before before None o) ky.1
    both None None k l hx hy kx ky = ap (λ (o : Option K). option_before before o l) kx ∙ ap (λ (o : Option K). option_before before None o) ky

    -- past the children there is neither node nor key
    key_at : (nodes : List (Option N)) (keys : List (Option K)) → AreKeys g key (same d) nodes keys → (i : ℕ) → IsKeyOf g key (same d) (node_in nodes i) (node_in keys i)
    key_at nodes keys are i =
        elim (cases_lt i (length nodes)) [
          | inl within ↦ are.at i within
          | inr past ↦
              let no_node : node_in nodes i ≡ None = get_or_past nodes i None past in
              let no_key : node_in keys i ≡ None = get_or_past keys i None (subst (λ (n : ℕ). n ≤ i) (sym are.count) past) in
              subst (λ (o : Option N). IsKeyOf g key (same d) o (node_in keys i)) (sym no_node) no_key
        ]

    comes : (nodes : List (Option N)) (keys : List (Option K)) → AreKeys g key (same d) nodes keys → ((i : ℕ) → IsHeld (node_in nodes i)) → (i j : ℕ) → comes_before before keys [] i j ≡ comes_before lt (map (option_map told) nodes) [] i j
    comes nodes keys are held i j =
        ap (λ (b : Bool). nat_lt (start_in [] i) (start_in [] j) || ((start_in [] i == start_in [] j) && b))
        (both (node_in nodes i) (node_in nodes j) (node_in keys i) (node_in keys j) (held i) (held j) (key_at nodes keys are i) (key_at nodes keys are j)
        ∙ ap (λ (x : Option Top). option_before lt x (option_map told (node_in nodes j))) (sym (told_in lt told nodes i))
        ∙ ap (option_before lt (node_in (map (option_map told) nodes) i)) (sym (told_in lt told nodes j)))

  module _ (pick : CstNode → Option N) (asked : Content → Bool) (picks : Picks node_of pick asked) (finds : Finds node_of pick) where
    in_order_of : (old new : CstRootNode A) (node : CstNode) (h : Headers) → IsTree (nodes_of old) → KeysCompareTops g key same node_of cmp lt old
        → (s : IsSortedByKey g key same node_of cmp old new node (map pick (map (typed_at (nodes_of old)) (elements_at (nodes_of old) (number_of node)))) h)
        → IsInOrderOf lt asked (nodes_of old) (number_of node) s.order
    in_order_of old new node h tree tell s =
        let ns : List Node = nodes_of old in
        let es : List ℕ = elements_at ns (number_of node) in
        let nodes : List (Option N) = map pick (map (typed_at ns) es) in
        let held : (i : ℕ) (x : N) → node_in nodes i ≡ Some x → HasNode old (node_of x) = held_in node_of pick finds ns es (elements_there ns (number_of node) tree) in
        subst (λ (n : ℕ). IsOrderedBy (comes_before lt (tops_asked asked ns (number_of node)) []) n s.order) (count node_of pick asked picks ns es)
        (subst (λ (l : List (Option Top)). IsOrderedBy (comes_before lt l []) (length nodes) s.order) (tops_of node_of pick asked picks ns es)
        (subst (λ (f : ℕ → ℕ → Bool). IsOrderedBy f (length nodes) s.order) (λ k i j. comes old tell nodes s.required.0 s.required.1 held i j k) s.required.2))

    once : (old now new : CstRootNode A) (node : CstNode) (h k : Headers) → IsStrictWeakOrder lt → IsTree (nodes_of old) → IsTree (nodes_of now) → HasNode old node
        → KeysCompareTops g key same node_of cmp lt old
        → IsSortedByKey g key same node_of cmp old now node (map pick (map (typed_at (nodes_of old)) (elements_at (nodes_of old) (number_of node)))) h
        → KeysCompareTops g key same node_of cmp lt now
        → IsSortedByKey g key same node_of cmp now new node (map pick (map (typed_at (nodes_of now)) (elements_at (nodes_of now) (number_of node)))) k
        → IsUntouched now new
    once old now new node h k o tree after there tell s more t =
        let still : nodes_of new ≡ nodes_of now =
        sorts_once lt asked (nodes_of old) (nodes_of now) (nodes_of new) (number_of node) h k s.order t.order o tree there.0 (in_order_of old now node h tree tell s) s.placed.made (in_order_of now new node k after more t) t.placed.made in
        (still, ap (λ (ns : List Node). printed (ordered_tree ns 0)) still)

elements_found : Finds (λ x. x) Some
elements_found what n x e = only_one (typed what n) x e

property_found : Finds object_prop_node property_if
property_found Content.property n x e = ap object_prop_node (only_one (property_under n) x e)
property_found _ n x e = absurd (none_some x e)

module _ {A F D K : Type 0} (key : F) (same : CstRootNode A → D) (cmp : K → K → Ordering) (lt : Top → Top → Bool) (old now new : CstRootNode A) (h k : Headers) where
  pub elements_sort_once_by_key : (g : Shared F (Bor D × (CstNode × Unit {0})) (Result K EditError)) (array : CstArray) → ElementsSortOnceByKey g key same cmp lt old now new array h k
  elements_sort_once_by_key g array = once g key same (λ x. x) cmp lt Some every elements_picked elements_found old now new (array_node array) h k

  pub properties_sort_once_by_key : (g : Shared F (Bor D × (CstObjectProp × Unit {0})) (Result K EditError)) (object : CstObject) → PropertiesSortOnceByKey g key same cmp lt old now new object h k
  properties_sort_once_by_key g object = once g key same object_prop_node cmp lt property_if is_property properties_picked property_found old now new (object_node object) h k
