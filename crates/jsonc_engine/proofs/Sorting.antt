-- The properties of an object in the order of their names.
use Rattle.std.proofs.Common.{◌≡◌, ◌∙◌, ℕ, ◌+◌, ◌<◌, Bool, true, false, not, ◌&&◌, List, [], ◌∷◌, All, filter, get_or, length, map, Option, Some, None, inl, inr, refl, sym, ap, subst, arith}
use Rattle.std.proofs.lemmas.Bool.{cases_Bool, false≢true}
use Rattle.std.proofs.lemmas.Cmp.{nat_list_cmp_total}
use Rattle.std.proofs.lemmas.List.{get_or-map, length-map}
use Rattle.std.proofs.lemmas.List.FromFn.{get_or-range_with_len, length-range_with_len}
use Rattle.std.proofs.lemmas.List.Sorted.{All-permutation, ranks_by}
use Rattle.std.specs.Cmp.Lexicographic.{slice_cmp}
use Rattle.std.specs.List.Sorted.{ties}
use Rattle.std.specs.Ordering.{is_lt, nat_cmp}
use Rattle.std.specs.Prelude.{slice_index}
use Rattle.std.specs.declared.cmp.Ordering.{Ordering}
use Rattle.jsonc_edit.proofs.Uniqueness.{over_at}
use Rattle.jsonc_edit.proofs.lemmas.commas.Holders.{Held}
use denote.Ref.{Bor}
use denote.Param.Members.{Shared}
use Rattle.jsonc_text.specs.Options.{Options}
use Rattle.jsonc_tree.specs.Content as content
use Rattle.jsonc_tree.specs.Content.{Content, object, property}
use Rattle.jsonc_tree.specs.OrderedTree.{OrderedTree, none, more, Shows, shows_none, shows_more, ordered_tree}
use Rattle.jsonc_tree.specs.Tree.{Node, content_at, children_at, IsTree}
use Rattle.jsonc_layout.specs.nodes.Kinds.{is_element_at}
use Rattle.jsonc_layout.specs.nodes.Properties.{value_at}
use Rattle.jsonc_layout.specs.nodes.Siblings.{elements_at}
use Rattle.jsonc_layout.specs.lines.Kinds.{is_array_or_object}
use Rattle.jsonc_sound.specs.Alone as alone
use Rattle.jsonc_sound.specs.Alone.{RowAlone}
use Rattle.jsonc_sound.specs.Rows.{RowKind, Last, holder, nothing_yet, of_properties, of_values}
use Rattle.jsonc_sound.specs.SoundTrees.{SoundTree}
use Rattle.jsonc_sound.specs.TreeChanges.{IsElement}
use Rattle.jsonc_sound.proofs.FirstNodes.{no_element, trivia_over}
use Rattle.jsonc_edit.specs.Changes.{row_below}
use Rattle.jsonc_edit.specs.Paths.{IsAt}
use Rattle.jsonc_edit.proofs.Elements.{taken, left}
use Rattle.jsonc_edit.proofs.FittingNodes.{over_there}
use Rattle.jsonc_edit.proofs.NodesKept.{filter_same}
use Rattle.jsonc_edit.proofs.ChangesUpward.{Shows-row_below}
use Rattle.jsonc_edit.proofs.lemmas.remove.Containers.{held_at}
use Rattle.jsonc_run.proofs.Roots.{value_stands}
use Rattle.jsonc_sort.specs.ordering.Asking.{ComparesBy}
use Rattle.jsonc_sort.specs.ordering.Order.{IsOrderedBy, comes_before, node_in, option_before}
use Rattle.jsonc_sort.specs.Rearranged.{headers_of}
use Rattle.jsonc_cst.specs.declared.cst.CstRootNode.{CstRootNode}
use Rattle.jsonc_cst.specs.declared.cst.node.CstNode.{CstNode}
use Rattle.jsonc_cst.specs.declared.cst.node.CstObject.{CstObject}
use Rattle.jsonc_cst.specs.declared.cst.node.CstObjectProp.{CstObjectProp}
use Rattle.jsonc_cst.specs.Document.{nodes_of, HasNode}
use Rattle.jsonc_cst.specs.Nodes.{number_of, object_node, object_prop_node, typed, typed_at}
use Rattle.jsonc_cst.specs.Readings.{object_if, property_under, typed_if}
use Rattle.jsonc_cst.specs.sorting.Asking.{IsInItsOrder}
use Rattle.jsonc_cst.specs.sorting.Rows.{property_if}
use Rattle.jsonc_cst.specs.sorting.Sorted.{IsPlaced, PropertiesSorted}
use Rattle.jsonc_cst.proofs.lemmas.sorting.UnderBlankLines.{none_under}
use Rattle.jsonc_engine.specs.Sorting.{IsByName, IsSorted, SortsIfSound, has_less_name, is_less, numbers_in, pins_at, written_name}
use Rattle.jsonc_engine.proofs.Removing.{object_read}

-- each element of the row is a property
abbrev AreProperties : OrderedTree → Type 0
AreProperties none = Unit {0}
AreProperties (more content below after) = (IsElement content → content ≡ property) × AreProperties after

row_of_properties : (o : Options) {last : Last} {row : OrderedTree} → RowAlone o of_properties last row → AreProperties row
row_of_properties o (alone.closes m) = (λ e. absurd (false≢true e), tt)
row_of_properties o (alone.trivia {content = content} t g) = (λ e. absurd (no_element content e (trivia_over o content t)), row_of_properties o g)
row_of_properties o (alone.element m (alone.a_property p) g) = (λ e. refl, row_of_properties o g)
row_of_properties o (alone.comma g) = (λ e. absurd (false≢true e), row_of_properties o g)

row_of_object : (o : Options) (kind : RowKind) (c : Content) {row : OrderedTree} → c ≡ holder kind → c ≡ object → RowAlone o kind nothing_yet row → AreProperties row
row_of_object o of_values c e is g = let wrong : content.array ≡ object = sym e ∙ is in cc
row_of_object o of_properties c e is g = row_of_properties o g

module _ (ns : List Node) where
  -- what a sort asks of, where all elements are properties
  abbrev asked : List ℕ → List (Option CstObjectProp)
  asked xs = map property_if (map (typed_at ns) xs)

  abbrev named : List ℕ → List (Option CstObjectProp)
  named xs = map (λ (n : ℕ). Some (property_under n)) xs

  one_asked : (n : ℕ) → content_at ns n ≡ property → property_if (typed_at ns n) ≡ Some (property_under n)
  one_asked n is = ap (λ w. property_if (typed w n)) is

  more_asked : (n : ℕ) (xs : List ℕ) → content_at ns n ≡ property → asked xs ≡ named xs → asked (n ∷ xs) ≡ named (n ∷ xs)
  more_asked n xs is later = ap (λ (p : Option CstObjectProp). p ∷ asked xs) (one_asked n is) ∙ ap (λ (l : List (Option CstObjectProp)). Some (property_under n) ∷ l) later

  all_asked : (xs : List ℕ) (row : OrderedTree) → Shows ns xs row → AreProperties row → asked (filter (is_element_at ns) xs) ≡ named (filter (is_element_at ns) xs)
  all_asked _ _ shows_none all = refl
  all_asked _ _ (shows_more {n = n} {rest = rest} {after = after} s r) all =
      let later : asked (filter (is_element_at ns) rest) ≡ named (filter (is_element_at ns) rest) = all_asked rest after r all.1 in
      elim (cases_Bool (is_element_at ns n)) [
        | inl is ↦
            let same : filter (is_element_at ns) (n ∷ rest) ≡ n ∷ filter (is_element_at ns) rest = taken (is_element_at ns) n rest is in
            ap asked same ∙ more_asked n (filter (is_element_at ns) rest) (all.0 is) later ∙ sym (ap named same)
        | inr other ↦
            let same : filter (is_element_at ns) (n ∷ rest) ≡ filter (is_element_at ns) rest = left (is_element_at ns) n rest other in
            ap asked same ∙ later ∙ sym (ap named same)
      ]

module _ (o : Options) (ns : List Node) (tree : IsTree ns) (sound : SoundTree o (ordered_tree ns 0)) (path : List ℕ) (c : ℕ) (at : IsAt ns path c) (is : content_at ns c ≡ object) where
  there : c < length ns
  there = over_there ns tree c (over_at ns tree path c at)

  properties_below : AreProperties (row_below ns c)
  properties_below =
      let h : Held o (content_at ns c) (row_below ns c) = held_at o ns tree sound path c at (ap is_array_or_object is) in
      subst AreProperties (sym h.under) (λ e. absurd (false≢true e), row_of_object o h.kind (content_at ns c) h.is is h.alone)

  object_asked : asked ns (elements_at ns c) ≡ named ns (elements_at ns c)
  object_asked = all_asked ns (children_at ns c) (row_below ns c) (Shows-row_below ns tree c there) properties_below

-- the name of one property is less than that of another
abbrev less : List Node → CstObjectProp → CstObjectProp → Bool
less ns x y = is_less (written_name ns x.number) (written_name ns y.number)

-- an order of places that all name a property is one of the properties' names
module _ (ns : List Node) (c : ℕ) where
  abbrev els : List ℕ
  els = elements_at ns c

  abbrev before : ℕ → ℕ → Bool
  before = comes_before (less ns) (named ns els) []

  node_is : (i : ℕ) → i < length els → node_in (named ns els) i ≡ Some (property_under (slice_index els i))
  node_is i h = get_or-map (λ (n : ℕ). Some (property_under n)) els i 0 None h

  same : (i j : ℕ) → i < length els → j < length els → before i j ≡ has_less_name ns c i j
  same i j h k = ap (λ (x : Option CstObjectProp). option_before (less ns) x (node_in (named ns els) j)) (node_is i h) ∙ ap (option_before (less ns) (Some (property_under (slice_index els i)))) (node_is j k)

  same_ties : (i j : ℕ) → i < length els → j < length els → ties (has_less_name ns c) i j ≡ ties before i j
  same_ties i j h k = ap (λ b. not b && not (has_less_name ns c j i)) (sym (same i j h k)) ∙ ap (λ b. not (before i j) && not b) (sym (same j i k h))

  below : All (λ i. i < length els) (numbers_in ns c)
  below k d h =
      let k_below : k < length els = omega (arith, h, length-range_with_len 0 (length els)) in
      subst (λ m. m < length els) (sym (get_or-range_with_len 0 (length els) k d k_below)) (omega (arith, k_below))

  alike : (i : ℕ) → i < length els → (xs : List ℕ) → All (λ j. j < length els) xs → filter (ties (has_less_name ns c) i) xs ≡ filter (ties before i) xs
  alike i h xs all = filter_same (ties (has_less_name ns c) i) (ties before i) xs (λ k l. same_ties i (slice_index xs k) h (all k 0 l))

  by_name : (order : List ℕ) → IsOrderedBy before (length els) order → IsByName ns c order
  by_name order ordered =
      let within : All (λ i. i < length els) order = All-permutation (λ i. i < length els) (numbers_in ns c) order ordered.all below in
      record {
        all = ordered.all;
        ascends = λ k d low high. sym (same (get_or order (k + 1) d) (get_or order k d) (within (k + 1) d high) (within k d (omega (arith, high)))) ∙ ordered.ascends k d low high;
        stable = λ i h. alike i h order within ∙ ordered.stable i ∙ sym (alike i h (numbers_in ns c) below);
      }

module _ {A F : Type 0} (g : Shared F (Bor (CstRootNode A) × (CstObjectProp × (CstObjectProp × Unit {0}))) Ordering) (compare : F) (old new : CstRootNode A) (x : CstObject) where
  abbrev HeldIn : CstObjectProp → Type 0
  HeldIn p = HasNode old (object_prop_node p)

  -- the closure compares names
  abbrev pub ComparesNames : Type 0
  ComparesNames = (d : Bor (CstRootNode A)) (p q : CstObjectProp) (r : Ordering) → d.now ≡ old → HeldIn p → HeldIn q → g.post compare (d, (p, (q, tt))) r
      → r ≡ slice_cmp nat_cmp (written_name (nodes_of d.now) p.number) (written_name (nodes_of d.now) q.number)

  compares : ComparesNames → ComparesBy g compare old HeldIn (less (nodes_of old))
  compares told = record {
    answers = λ d p q r at hp hq post. ap is_lt (told d p q r at hp hq post) ∙ ap (λ (w : CstRootNode A). is_less (written_name (nodes_of w) p.number) (written_name (nodes_of w) q.number)) at;
    order = ranks_by nat_list_cmp_total (λ (p : CstObjectProp). written_name (nodes_of old) p.number);
  }

  -- so many comments are pinned as are kept
  abbrev Sorted : (pinned : CstNode → List (Option CstObjectProp) → List (Option ℕ) → Type 0) → CstObject → Bool → Type 0
  Sorted pinned y groups = PropertiesSorted old new y pinned groups (IsInItsOrder g compare old HeldIn)

  sorted_so : (keeps : Bool) → IsTree (nodes_of old) → ComparesNames → Sorted (λ n xs pins. pins ≡ pins_at keeps (nodes_of old) (number_of n)) x false → IsSorted keeps old new x
  sorted_so keeps tree told (pins, pinned, sorted) =
      let ns = nodes_of old in
      let row : List ℕ = elements_at ns x.number in
      record {
        order = sorted.order;
        by_name = λ o path sound at is.
            let ordered : IsOrderedBy (before ns x.number) (length (named ns row)) sorted.order =
            subst (λ (l : List (Option CstObjectProp)). IsOrderedBy (comes_before (less ns) l []) (length l) sorted.order) (object_asked o ns tree sound path x.number at is) (sorted.required (less ns) (compares told)) in
            by_name ns x.number sorted.order (subst (λ (n : ℕ). IsOrderedBy (before ns x.number) n sorted.order) (length-map row (λ (n : ℕ). Some (property_under n))) ordered);
        placed = subst (λ (ps : List (Option ℕ)). IsPlaced ns (nodes_of new) x.number (headers_of ps false) sorted.order) pinned sorted.placed;
      }

  -- the object has been sorted by names
  pub sorts_by_name : (keeps : Bool) (y : CstObject) (groups : Bool) → IsTree (nodes_of old) → y ≡ x → groups ≡ false → Sorted (λ n xs pins. pins ≡ pins_at keeps (nodes_of old) (number_of n)) y groups → ComparesNames
      → IsSorted keeps old new x
  sorts_by_name keeps y groups tree one off sorted told =
      let pinned : CstNode → List (Option CstObjectProp) → List (Option ℕ) → Type 0 = λ n xs pins. pins ≡ pins_at keeps (nodes_of old) (number_of n) in
      sorted_so keeps tree told (subst (λ (b : Bool). Sorted pinned x b) off (subst (λ (w : CstObject). Sorted pinned w groups) one sorted))

-- and so has the document's value, if that is it
pub sorts_value : {A : Type 0} (o : Options) (old new : CstRootNode A) (x : CstObject) → IsTree (nodes_of old) → object_if (typed_if (nodes_of old) (value_at (nodes_of old) 0)) ≡ Some x → IsSorted false old new x
    → SortsIfSound o (nodes_of old) (nodes_of new)
sorts_value o old new x tree read sorted = λ sound.
    let ns = nodes_of old in
    let is : (value_at ns 0 ≡ Some x.number) × (content_at ns x.number ≡ object) = object_read ns (value_at ns 0) x read in
    let at : IsAt ns [] x.number = value_stands ns tree x.number is.0 in
    record {
      c = x.number;
      value = is.0;
      is_object = is.1;
      order = sorted.order;
      by_name = sorted.by_name o [] sound at is.1;
      moved = sorted.placed.made;
      step = sorted.placed.step true (λ e. none_under old (object_node x) [] refl);
    }
