-- Second sorts of typed arrays and objects.
use Rattle.std.proofs.Common.{◌≡◌, ℕ, zero, suc, Bool, true, ◌&&◌, ◌||◌, ◌==◌, List, [], ◌∷◌, length, map, Option, Some, None, option_map, refl, sym, ap, subst, ◌∙◌}
use Rattle.std.specs.Prelude.{nat_lt}
use Rattle.std.specs.Cmp.{IsStrictWeakOrder}
use Rattle.std.specs.declared.cmp.Ordering.{Ordering}
use Rattle.std.proofs.lemmas.List.{length-map}
use denote.Ref.{Bor}
use denote.Param.Members.{Shared}
use Rattle.jsonc_tree.specs.Content.{Content}
use Rattle.jsonc_tree.specs.OrderedTree.{Top, ordered_tree, printed}
use Rattle.jsonc_tree.specs.Tree.{Node, content_at, IsTree}
use Rattle.jsonc_layout.specs.nodes.Kinds.{is_property}
use Rattle.jsonc_layout.specs.nodes.Siblings.{elements_at}
use Rattle.jsonc_edit.specs.Changes.{top_at}
use Rattle.jsonc_sort.specs.ordering.Order.{comes_before, node_in, option_before, start_in, IsOrderedBy}
use Rattle.jsonc_sort.specs.Sorting.{Headers}
use Rattle.jsonc_cst.specs.declared.cst.CstRootNode.{CstRootNode}
use Rattle.jsonc_cst.specs.declared.cst.node.CstArray.{CstArray}
use Rattle.jsonc_cst.specs.declared.cst.node.CstNode.{CstNode}
use Rattle.jsonc_cst.specs.declared.cst.node.CstObject.{CstObject}
use Rattle.jsonc_cst.specs.declared.cst.node.CstObjectProp.{CstObjectProp}
use Rattle.jsonc_cst.specs.Document.{nodes_of, HasNode}
use Rattle.jsonc_cst.specs.Nodes.{array_node, number_of, object_node, object_prop_node, typed, typed_at}
use Rattle.jsonc_cst.proofs.Family.{number_of-typed}
use Rattle.jsonc_cst.specs.sorting.Rows.{property_if}
use Rattle.jsonc_sort.specs.again.Again.{top_if, tops_asked, IsInOrderOf}
use Rattle.jsonc_cst.specs.sorting.Again.{ComparesTops, ElementsSortOnce, IsSortedBy, IsUntouched, PropertiesSortOnce}
use Rattle.jsonc_sort.proofs.lemmas.again.SecondSort.{sorts_once}

-- an order of what nodes are, as a function determines it
module _ {N T : Type 0} (lt : T → T → Bool) (told : N → T) where
  pub told_in : (nodes : List (Option N)) (i : ℕ) → node_in (map (option_map told) nodes) i ≡ option_map told (node_in nodes i)
  told_in [] i = refl
  told_in (x ∷ nodes) zero = refl
  told_in (x ∷ nodes) (suc i) = told_in nodes i

  told_before : (x y : Option N) → option_before (λ a b. lt (told a) (told b)) x y ≡ option_before lt (option_map told x) (option_map told y)
  told_before (Some x) (Some y) = refl
  told_before (Some x) None = refl
  told_before None (Some y) = refl
  told_before None None = refl

  told_comes : (nodes : List (Option N)) (starts : List ℕ) (i j : ℕ) → comes_before (λ a b. lt (told a) (told b)) nodes starts i j ≡ comes_before lt (map (option_map told) nodes) starts i j
  told_comes nodes starts i j =
      ap (λ (b : Bool). nat_lt (start_in starts i) (start_in starts j) || ((start_in starts i == start_in starts j) && b))
      (told_before (node_in nodes i) (node_in nodes j) ∙ ap (λ (x : Option T). option_before lt x (option_map told (node_in nodes j))) (sym (told_in nodes i))
      ∙ ap (option_before lt (node_in (map (option_map told) nodes) i)) (sym (told_in nodes j)))

  told_ordered : (nodes : List (Option N)) (starts : List ℕ) (n : ℕ) (order : List ℕ) → IsOrderedBy (comes_before (λ a b. lt (told a) (told b)) nodes starts) n order → IsOrderedBy (comes_before lt (map (option_map told) nodes) starts) n order
  told_ordered nodes starts n order o = subst (λ (f : ℕ → ℕ → Bool). IsOrderedBy f n order) (λ k i j. told_comes nodes starts i j k) o

-- typed nodes for numbers, where they are asked
module _ {N : Type 0} (node_of : N → CstNode) (pick : CstNode → Option N) (asked : Content → Bool) where
  abbrev pub node_top : List Node → N → Top
  node_top ns x = top_at ns (number_of (node_of x))

  abbrev pub Picks : Type 0
  Picks = (ns : List Node) (n : ℕ) → option_map (node_top ns) (pick (typed_at ns n)) ≡ top_if (asked (content_at ns n)) (top_at ns n)

  module _ (picks : Picks) where
    pub tops_of : (ns : List Node) (es : List ℕ) → map (option_map (node_top ns)) (map pick (map (typed_at ns) es)) ≡ map (λ n. top_if (asked (content_at ns n)) (top_at ns n)) es
    tops_of ns [] = refl
    tops_of ns (n ∷ es) = ap (λ t. t ∷ map (option_map (node_top ns)) (map pick (map (typed_at ns) es))) (picks ns n) ∙ ap (λ l. top_if (asked (content_at ns n)) (top_at ns n) ∷ l) (tops_of ns es)

    pub count : (ns : List Node) (es : List ℕ) → length (map pick (map (typed_at ns) es)) ≡ length es
    count ns es = length-map (map (typed_at ns) es) pick ∙ length-map es (typed_at ns)

    module _ {A F D : Type 0} (g : Shared F (Bor D × (N × (N × Unit {0}))) Ordering) (compare : F) (same : CstRootNode A → D) (lt : Top → Top → Bool) where
      in_order_of : (old new : CstRootNode A) (node : CstNode) (h : Headers) → ComparesTops g compare same node_of lt old
          → (s : IsSortedBy g compare same node_of old new node (map pick (map (typed_at (nodes_of old)) (elements_at (nodes_of old) (number_of node)))) h) → IsInOrderOf lt asked (nodes_of old) (number_of node) s.order
      in_order_of old new node h by s =
          let ns : List Node = nodes_of old in
          let es : List ℕ = elements_at ns (number_of node) in
          let nodes : List (Option N) = map pick (map (typed_at ns) es) in
          subst (λ (n : ℕ). IsOrderedBy (comes_before lt (tops_asked asked ns (number_of node)) []) n s.order) (count ns es)
          (subst (λ (l : List (Option Top)). IsOrderedBy (comes_before lt l []) (length nodes) s.order) (tops_of ns es)
          (told_ordered lt (node_top ns) nodes [] (length nodes) s.order (s.required (λ x y. lt (node_top ns x) (node_top ns y)) by)))

      once : (old now new : CstRootNode A) (node : CstNode) (h k : Headers) → IsStrictWeakOrder lt → IsTree (nodes_of old) → HasNode old node
          → ComparesTops g compare same node_of lt old → IsSortedBy g compare same node_of old now node (map pick (map (typed_at (nodes_of old)) (elements_at (nodes_of old) (number_of node)))) h
          → ComparesTops g compare same node_of lt now → IsSortedBy g compare same node_of now new node (map pick (map (typed_at (nodes_of now)) (elements_at (nodes_of now) (number_of node)))) k
          → IsUntouched now new
      once old now new node h k o tree there by s more t =
          let still : nodes_of new ≡ nodes_of now =
          sorts_once lt asked (nodes_of old) (nodes_of now) (nodes_of new) (number_of node) h k s.order t.order o tree there.0 (in_order_of old now node h by s) s.placed.made (in_order_of now new node k more t) t.placed.made in
          (still, ap (λ (ns : List Node). printed (ordered_tree ns 0)) still)

-- every element of an array is asked
abbrev pub every : Content → Bool
every content = true

pub elements_picked : Picks (λ x. x) Some every
elements_picked ns n = ap (λ (m : ℕ). Some (top_at ns m)) (number_of-typed (content_at ns n) n)

-- of an object its properties are
property_picked : (what : Content) (n : ℕ) (f : ℕ → Top) → option_map (λ (x : CstObjectProp). f (number_of (object_prop_node x))) (property_if (typed what n)) ≡ top_if (is_property what) (f n)
property_picked Content.property n f = refl
property_picked _ n f = refl

pub properties_picked : Picks object_prop_node property_if is_property
properties_picked ns n = property_picked (content_at ns n) n (top_at ns)

module _ {A F D : Type 0} (compare : F) (same : CstRootNode A → D) (lt : Top → Top → Bool) (old now new : CstRootNode A) (h k : Headers) where
  pub elements_sort_once : (g : Shared F (Bor D × (CstNode × (CstNode × Unit {0}))) Ordering) (array : CstArray) → ElementsSortOnce g compare same lt old now new array h k
  elements_sort_once g array o tree there by s more t = once (λ x. x) Some every elements_picked g compare same lt old now new (array_node array) h k o tree there by s more t

  pub properties_sort_once : (g : Shared F (Bor D × (CstObjectProp × (CstObjectProp × Unit {0}))) Ordering) (object : CstObject) → PropertiesSortOnce g compare same lt old now new object h k
  properties_sort_once g object o tree there by s more t = once object_prop_node property_if is_property properties_picked g compare same lt old now new (object_node object) h k o tree there by s more t
