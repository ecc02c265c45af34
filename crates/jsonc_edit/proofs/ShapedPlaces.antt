-- Where each node of a document stands: from the root down, each row is shaped, and so each child of a node that has its place has one.
use Rattle.std.proofs.Common.{◌≡◌, ℕ, zero, suc, ◌<◌, not, List, [], ◌∷◌, ◌++◌, length, take, filter, slice_index, Some, inl, inr, refl, sym, ap, subst, ◌∙◌, arith}
use Rattle.std.proofs.lemmas.Bool.{cases_Bool}
use Rattle.jsonc_text.specs.Options.{Options}
use Rattle.jsonc_tree.specs.Content.{Content, root, object, property}
use Rattle.jsonc_tree.specs.Tree.{Node, content_at, parent_at, children_at, place_at, IsTree, IsOver}
use Rattle.jsonc_tree.specs.OrderedTree.{OrderedTree, none, more, Shows, shows_none, shows_more, ordered_tree}
use Rattle.jsonc_tree.specs.Values.{is_passed_over}
use Rattle.jsonc_tree.proofs.Order.{parent_there}
use Rattle.jsonc_tree.proofs.OrderedTrees.{Shows-unique}
use Rattle.jsonc_sound.specs.Shape.{DocumentShaped}
use Rattle.jsonc_layout.specs.nodes.Kinds.{is_element_at}
use Rattle.jsonc_sound.specs.TreeChanges.{IsElement}
use Rattle.jsonc_sound.proofs.FirstNodes.{value_element}
use Rattle.jsonc_edit.specs.Paths.{IsElementOf, StepsTo, in_array, in_object, LeadsTo, itself, step, IsAt, Stands, as_root, as_value, as_property, as_name, between}
use Rattle.jsonc_edit.specs.Changes.{row_below}
use Rattle.jsonc_edit.proofs.Elements.{taken, left, found_among}
use Rattle.jsonc_edit.proofs.Entries.{Entry, this, behind_passed, behind_element, Passed, IsAnyValue, IsAnyProperty, passed_leaf, no_entry, entry_property, entry_value, entry_document}
use Rattle.jsonc_edit.proofs.ShapedProperties.{shaped_value}
use Rattle.jsonc_edit.proofs.ChangesUpward.{Shows-row_below, document_is}

-- a path goes on by a step
leads_further : (ns : List Node) (p v i n : ℕ) (path : List ℕ) → LeadsTo ns p v path → StepsTo ns p i n → LeadsTo ns n v (path ++ i ∷ [])
leads_further ns p _ i n _ itself s = step s itself
leads_further ns p v i n _ (step {q = q} {path = path} t rest) s = step t (leads_further ns p q i n path rest s)

pub at_further : (ns : List Node) (p i n : ℕ) (path : List ℕ) → IsAt ns path p → StepsTo ns p i n → IsAt ns (path ++ i ∷ []) n
at_further ns p i n path (v, e, leads) s = (v, e, leads_further ns p v i n path leads s)

module _ (ns : List Node) (tree : IsTree ns) where
  -- how many elements stand before a place
  abbrev count : List ℕ → ℕ → ℕ
  count cs k = length (filter (is_element_at ns) (take k cs))

  -- what is first in a row comes behind no element, and what is behind a node behind one more, if that is one
  entry_behind : (n : ℕ) (rest : List ℕ) (under after : OrderedTree) (content : Content) (below : OrderedTree) (k : ℕ) → Entry content below (count rest k) after → Entry content below (count (n ∷ rest) (suc k)) (more (content_at ns n) under after)
  entry_behind n rest under after content below k e =
      elim (cases_Bool (is_passed_over (content_at ns n))) [
        | inl over ↦ subst (λ i. Entry content below i (more (content_at ns n) under after)) (sym (ap length (left (is_element_at ns) n (take k rest) (ap not over)))) (behind_passed over e)
        | inr element ↦ subst (λ i. Entry content below i (more (content_at ns n) under after)) (sym (ap length (taken (is_element_at ns) n (take k rest) (ap not element)))) (behind_element (ap not element) e)
      ]

  -- a child is an entry of its parent's row
  entry_at : (cs : List ℕ) (row : OrderedTree) (k : ℕ) → Shows ns cs row → ((e : ℕ) → e < length cs → slice_index cs e < length ns) → k < length cs → Entry (content_at ns (slice_index cs k)) (row_below ns (slice_index cs k)) (count cs k) row
  entry_at _ _ k shows_none there h = absurd (omega arith)
  entry_at _ _ zero (shows_more {n = n} {rest = rest} {below = b} {after = a} p q) there h =
      let same : row_below ns n ≡ b = Shows-unique ns (children_at ns n) (row_below ns n) b (Shows-row_below ns tree n (there 0 h)) p in
      subst (λ (t : OrderedTree). Entry (content_at ns n) (row_below ns n) 0 (more (content_at ns n) t a)) same this
  entry_at _ _ (suc k) (shows_more {n = n} {rest = rest} {below = b} {after = a} p q) there h =
      entry_behind n rest b a (content_at ns (slice_index rest k)) (row_below ns (slice_index rest k)) k
      (entry_at rest a k q (λ e l. there (suc e) (omega arith)) (omega arith))

  -- the place among the elements that a node has, if it is one
  abbrev place_of : ℕ → ℕ → ℕ
  place_of p n = count (children_at ns p) (place_at ns n)

  entry_of : (n p : ℕ) → parent_at ns n ≡ Some p → Entry (content_at ns n) (row_below ns n) (place_of p n) (row_below ns p)
  entry_of n p said =
      subst (λ m. Entry (content_at ns m) (row_below ns m) (place_of p n) (row_below ns p)) (tree.found n p said)
      (entry_at (children_at ns p) (row_below ns p) (place_at ns n) (Shows-row_below ns tree p (parent_there ns tree n p said).1) (λ e h. tree.in_tree p e h) (tree.within n p said))

  element_of : (n p : ℕ) → parent_at ns n ≡ Some p → IsElement (content_at ns n) → IsElementOf ns p (place_of p n) n
  element_of n p said element =
      let is = tree.found n p said in
      found_among (is_element_at ns) (children_at ns p) (place_at ns n) (tree.within n p said) (subst (λ m. IsElement (content_at ns m)) (sym is) element) ∙ ap Some is

  -- what has no row below it is no parent
  bare_parent : (n p : ℕ) → parent_at ns n ≡ Some p → row_below ns p ≡ none → ⊥
  bare_parent n p said bare =
      no_entry (content_at ns n) (row_below ns n) (place_of p n) (subst (λ (t : OrderedTree). Entry (content_at ns n) (row_below ns n) (place_of p n) t) bare (entry_of n p said))

-- where a node stands, and of what shape the row below it is
data Standing (o : Options) (ns : List Node) (n : ℕ) : Type 0 where
  root_stands : n ≡ 0 → Standing o ns n
  value_stands : {path : List ℕ} → IsAt ns path n → IsAnyValue o (content_at ns n) (row_below ns n) → Standing o ns n
  property_stands : {path : List ℕ} {p : ℕ} (i : ℕ) → IsAt ns path p → content_at ns p ≡ object → IsElementOf ns p i n → content_at ns n ≡ property → IsAnyProperty o (row_below ns n) → Standing o ns n
  name_stands : (r : ℕ) → content_at ns r ≡ property → IsElementOf ns r 0 n → row_below ns n ≡ none → Standing o ns n
  passed_stands : Passed (content_at ns n) → Standing o ns n

module _ (o : Options) (ns : List Node) (tree : IsTree ns) (shaped : DocumentShaped o (ordered_tree ns 0)) where
  in_document : (n : ℕ) → parent_at ns n ≡ Some 0 → Standing o ns n
  in_document n said =
      let row : OrderedTree = row_below ns 0 in
      let shape : DocumentShaped o (more root row none) = subst (DocumentShaped o) (sym (document_is ns tree row (Shows-row_below ns tree 0 tree.first))) shaped in
      elim (entry_document o (content_at ns n) (row_below ns n) (place_of ns tree 0 n) row shape (entry_of ns tree n 0 said)) [
        | inl h ↦ passed_stands h
        | inr v ↦
            let element = value_element v.1.1 in
            value_stands {path = []} (n, subst (λ i. IsElementOf ns 0 i n) v.0 (element_of ns tree n 0 said element), itself) v.1
      ]

  in_value : (n p : ℕ) (path : List ℕ) → parent_at ns n ≡ Some p → IsAt ns path p → IsAnyValue o (content_at ns p) (row_below ns p) → Standing o ns n
  in_value n p path said at v =
      let i : ℕ = place_of ns tree p n in
      elim (entry_value o (content_at ns n) (row_below ns n) i (content_at ns p) (row_below ns p) v.0 v.1 (entry_of ns tree n p said)) [
        | inl h ↦ passed_stands h
        | inr inside ↦ elim inside [
          | inl a ↦
              let element = value_element a.1.1 in
              value_stands {path = path ++ i ∷ []} (at_further ns p i n path at (in_array a.0 (element_of ns tree n p said element))) a.1
          | inr b ↦
              let element : IsElement (content_at ns n) = subst IsElement (sym b.1.0) refl in
              property_stands {path = path} {p = p} i at b.0 (element_of ns tree n p said element) b.1.0 b.1.1
        ]
      ]

  in_property : (n r p i : ℕ) (path : List ℕ) → parent_at ns n ≡ Some r → IsAt ns path p → content_at ns p ≡ object → IsElementOf ns p i r → content_at ns r ≡ property → IsAnyProperty o (row_below ns r) → Standing o ns n
  in_property n r p i path said at outer element is shape =
      elim (entry_property o (content_at ns n) (row_below ns n) (place_of ns tree r n) (row_below ns r) shape.0 shape.1 (entry_of ns tree n r said)) [
        | inl h ↦ passed_stands h
        | inr held ↦ elim held [
          | inl name ↦ name_stands r is (subst (λ j. IsElementOf ns r j n) name.0 (element_of ns tree n r said name.2)) name.1
          | inr v ↦
              let kind = value_element v.1.1 in
              let second : IsElementOf ns r 1 n = subst (λ j. IsElementOf ns r j n) v.0 (element_of ns tree n r said kind) in
              let held = shaped_value ns o r n (row_below ns r) shape.0 (Shows-row_below ns tree r (parent_there ns tree n r said).1) shape.1 is second in
              value_stands {path = path ++ i ∷ []} (at_further ns p i n path at (in_object {r = r} outer element (is, second, held))) v.1
        ]
      ]

  child_stands : (n p : ℕ) → parent_at ns n ≡ Some p → Standing o ns p → Standing o ns n
  child_stands n p said (root_stands e) = in_document n (said ∙ ap Some e)
  child_stands n p said (value_stands {path = path} at v) = in_value n p path said at v
  child_stands n p said (property_stands {path = path} {p = q} i at outer element is shape) = in_property n p q i path said at outer element is shape
  child_stands n p said (name_stands r is element bare) = absurd (bare_parent ns tree n p said bare)
  child_stands n p said (passed_stands h) =
      absurd (omega (arith, tree.within n p said, ap length (tree.leaf p (passed_leaf (content_at ns p) h))))

  standing : (n : ℕ) → IsOver ns 0 n → Standing o ns n
  standing _ IsOver.itself = root_stands refl
  standing n (IsOver.above {c = p} said rest) = child_stands n p said (standing p rest)

stands_from : (o : Options) (ns : List Node) (n : ℕ) → Standing o ns n → Stands ns n
stands_from o ns n (root_stands e) = as_root e
stands_from o ns n (value_stands at v) = as_value at
stands_from o ns n (property_stands i at outer element is shape) = as_property i at outer element is
stands_from o ns n (name_stands r is element bare) = as_name r is element
stands_from o ns n (passed_stands h) = between h

-- each node below the root has its place
pub all_stand : (o : Options) (ns : List Node) → IsTree ns → DocumentShaped o (ordered_tree ns 0) → (n : ℕ) → IsOver ns 0 n → Stands ns n
all_stand o ns tree shaped n over = stands_from o ns n (standing o ns tree shaped n over)
