-- The steps of paths, backwards: the steps to a value lead from one array or object, which is nearer to the root.
use Rattle.std.proofs.Common.{◌≡◌, ℕ, ◌+◌, ◌<◌, Bool, true, not, eqb, List, [], ◌∷◌, ◌++◌, length, take, reverse, filter, slice_get, option_map, Option, Some, None, IfSome, IfNone, inl, inr, refl, sym, ap, subst, ◌∙◌, eq-eqb, arith}
use Rattle.std.specs.Option.{option_eq}
use Rattle.std.proofs.lemmas.Bool.{cases_Bool}
use Rattle.std.proofs.lemmas.List.{length-append, reverse-append}
use Rattle.std.proofs.lemmas.List.Elements.{filter-append}
use Rattle.jsonc_tree.specs.Content.{Content, array, object, property}
use Rattle.jsonc_tree.specs.Order.{with_parent, upward}
use Rattle.jsonc_tree.specs.Stored.{content_of}
use Rattle.jsonc_tree.specs.Tree.{Node, content_at, parent_at, children_at, place_at, IsTree}
use Rattle.jsonc_tree.specs.declared.node.Kind.{Kind}
use Rattle.jsonc_tree.specs.declared.node.Kind.TheVariants as kind
use Rattle.jsonc_tree.proofs.Order.{parent_there, upward_is}
use Rattle.jsonc_layout.specs.nodes.Kinds.{is_element_at}
use Rattle.jsonc_layout.specs.nodes.Siblings.{element_index_at, elements_at, siblings_before}
use Rattle.jsonc_edit.specs.Paths.{IsElementOf, IsHeldBy, StepsTo, in_array, in_object, LeadsTo, itself, step, IsAt}
use Rattle.jsonc_edit.proofs.Elements.{Some_same, StandsAt, found_among, left, stands_at, taken}
use Rattle.jsonc_edit.proofs.Uniqueness.{element_parent}
use Rattle.jsonc_edit.proofs.ValuePlaces.{HeldAt, by_root, by_array, by_property, held_at}
use Rattle.jsonc_cst.specs.Paths.{IsEntryOf}

-- a list read backwards has as many that pass a test
one_more_back : (test : ℕ → Bool) (x : ℕ) (xs : List ℕ) → length (filter test (reverse xs)) ≡ length (filter test xs)
    → length (filter test (reverse xs)) + length (filter test (x ∷ [])) ≡ length (filter test (x ∷ xs))
one_more_back test x xs rest =
    elim (cases_Bool (test x)) [
      | inl h ↦ (let one = ap length (taken test x [] h) in let all = ap length (taken test x xs h) in omega (arith, one, all, rest))
      | inr h ↦ (let one = ap length (left test x [] h) in let all = ap length (left test x xs h) in omega (arith, one, all, rest))
    ]

pub counted_back : (test : ℕ → Bool) (xs : List ℕ) → length (filter test (reverse xs)) ≡ length (filter test xs)
counted_back test [] = refl
counted_back test (x ∷ xs) =
    ap (λ l. length (filter test l)) (reverse-append (x ∷ []) xs)
    ∙ ap length (filter-append test (reverse xs) (x ∷ []))
    ∙ length-append (filter test (reverse xs)) (filter test (x ∷ []))
    ∙ one_more_back test x xs (counted_back test xs)

no_array_is_property : (content : Content) → content ≡ array → content ≡ property → ⊥
no_array_is_property content a p = let wrong : array ≡ property = sym a ∙ p in cc

-- what is no array by its kind is none by its content, and the same of an object and of a property
module _ {A : Type 0} where
  pub not_array : (k : Kind A) → ((ends : _) → k ≡ kind.Array ends → ⊥) → content_of k ≡ array → ⊥
  not_array (kind.Array ends) h e = h ends refl
  not_array k h e = cc

  pub not_object : (k : Kind A) → ((ends : _) → k ≡ kind.Object ends → ⊥) → content_of k ≡ object → ⊥
  not_object (kind.Object ends) h e = h ends refl
  not_object k h e = cc

  pub not_property : (k : Kind A) → ((ends : _) → k ≡ kind.Property ends → ⊥) → content_of k ≡ property → ⊥
  not_property (kind.Property ends) h e = h ends refl
  not_property k h e = cc

-- where a path leads to the node n, one leads to the value v
abbrev pub Covers : List Node → ℕ → ℕ → Type 0
Covers ns n v = (path : List ℕ) → IsAt ns path n → (before : List ℕ) × IsAt ns before v

module _ (ns : List Node) where
  -- the empty path leads from a node to itself
  pub leads_to_itself : (n : ℕ) (back : List ℕ) → back ≡ [] → LeadsTo ns n n (reverse back)
  leads_to_itself n back none = subst (λ (l : List ℕ). LeadsTo ns n n (reverse l)) (sym none) itself

  -- one more step back leads to the node too
  pub leads_on : (n v p i : ℕ) (back more : List ℕ) → more ≡ back ++ i ∷ [] → StepsTo ns p i v → LeadsTo ns n v (reverse back) → LeadsTo ns n p (reverse more)
  leads_on n v p i back more is s leads = subst (λ (path : List ℕ). LeadsTo ns n p path) (sym (ap reverse is ∙ reverse-append back (i ∷ []))) (step s leads)

  -- a node other than the one found as the root's first element is not that element
  pub not_first : (first : Option ℕ) (v : ℕ) → first ≡ slice_get (elements_at ns 0) 0 → true ≡ not (option_eq eqb first (Some v)) → IsElementOf ns 0 0 v → ⊥
  not_first first v is differs e =
      let same : option_eq eqb first (Some v) ≡ true = ap (λ o. option_eq eqb o (Some v)) (is ∙ e) ∙ eq-eqb v v refl in
      let wrong : true ≡ not true = differs ∙ ap not same in
      cc

  -- a property of an object that holds the value makes a step
  pub steps_through : (c v : ℕ) (found : Option (ℕ × ℕ)) → IfSome found (λ s. IsHeldBy ns c v) → IfSome found (λ s. IsEntryOf ns s.0 s.1 c) → IfSome found (λ s. StepsTo ns s.0 s.1 v)
  steps_through c v None held entry = tt
  steps_through c v (Some s) held entry = in_object {r = c} entry.0 entry.1 held

  -- an element passes the test
  pub is_one : (p i q : ℕ) → IsElementOf ns p i q → is_element_at ns q ≡ true
  is_one p i q e = let at : StandsAt (is_element_at ns) (children_at ns p) i q = stands_at (is_element_at ns) (children_at ns p) i q e in at.3

  held_up : (v : ℕ) → (IsElementOf ns 0 0 v → ⊥) → HeldAt ns v → (p i : ℕ) × (path : List ℕ) × IsAt ns path p × StepsTo ns p i v
  held_up v away (by_root e) = absurd (away e)
  held_up v away (by_array p i path at a e) = (p, i, path, at, in_array a e)
  held_up v away (by_property p r i path at o e h) = (p, i, path, at, in_object {r = r} o e h)

  -- a path to a value that is not the document's has a last step
  last_step : (path : List ℕ) (v : ℕ) → (IsElementOf ns 0 0 v → ⊥) → IsAt ns path v → (p i : ℕ) × (before : List ℕ) × IsAt ns before p × StepsTo ns p i v
  last_step path v away at = held_up v away (held_at ns path v at)

  -- where no step leads to a value above the node, no path leads to the node
  pub no_path : (n v : ℕ) → (IsElementOf ns 0 0 v → ⊥) → ((p i : ℕ) → StepsTo ns p i v → ⊥) → Covers ns n v → (path : List ℕ) → IsAt ns path n → ⊥
  no_path n v away none covers path at =
      let above = covers path at in
      let last = last_step above.0 v away above.1 in
      none last.0 last.1 last.4

module _ (ns : List Node) (tree : IsTree ns) where
  -- an element has one container
  pub container_once : (p q i j v : ℕ) → IsElementOf ns p i v → IsElementOf ns q j v → p ≡ q
  container_once p q i j v e f = Some_same p q (sym (element_parent ns tree p i v e) ∙ element_parent ns tree q j v f)

  -- an element is at its index among the elements of its parent
  pub element_is : (n p i : ℕ) → parent_at ns n ≡ Some p → Some i ≡ element_index_at ns n → is_element_at ns n ≡ true → IsElementOf ns p i n
  element_is n p i said index element =
      let is = tree.found n p said in
      let cs : List ℕ = children_at ns p in
      let k : ℕ = place_at ns n in
      let row : siblings_before ns n ≡ reverse (take k cs) = ap (λ o. reverse (take k (with_parent o (children_at ns)))) said in
      let before : element_index_at ns n ≡ Some (length (filter (is_element_at ns) (siblings_before ns n))) =
      ap (option_map (λ (c : ℕ). length (filter (is_element_at ns) (siblings_before ns n)))) said in
      let count : length (filter (is_element_at ns) (take k cs)) ≡ i =
      sym (counted_back (is_element_at ns) (take k cs)) ∙ sym (ap (λ l. length (filter (is_element_at ns) l)) row) ∙ sym (Some_same i (length (filter (is_element_at ns) (siblings_before ns n))) (index ∙ before)) in
      subst (λ j. IsElementOf ns p j n) count
      (found_among (is_element_at ns) cs k (tree.within n p said) (ap (is_element_at ns) is ∙ element) ∙ ap Some is)

  -- a child of what is neither an array nor a property has no step to it
  pub no_holder : (c i v : ℕ) → IsElementOf ns c i v → (content_at ns c ≡ array → ⊥) → (content_at ns c ≡ property → ⊥) → (p j : ℕ) → StepsTo ns p j v → ⊥
  no_holder c i v at no_array no_property p j (in_array a e) = no_array (subst (λ z. content_at ns z ≡ array) (container_once p c j i v e at) a)
  no_holder c i v at no_array no_property p j (in_object {r = r} o e h) = no_property (subst (λ z. content_at ns z ≡ property) (container_once r c 1 i v h.1 at) h.0)

  -- a step to a child of a property goes through that property
  not_through : (c i v : ℕ) → IsElementOf ns c i v → content_at ns c ≡ property → ((p j : ℕ) → IsEntryOf ns p j c → IsHeldBy ns c v → ⊥) → (p j : ℕ) → StepsTo ns p j v → ⊥
  not_through c i v at is none p j (in_array a e) =
      no_array_is_property (content_at ns c) (subst (λ z. content_at ns z ≡ array) (container_once p c j i v e at) a) is
  not_through c i v at is none p j (in_object {r = r} o e h) =
      let same : r ≡ c = container_once r c 1 i v h.1 at in
      none p j (o, subst (λ z. IsElementOf ns p j z) same e) (subst (λ z. IsHeldBy ns z v) same h)

  pub none_through : (c i v : ℕ) (found : Option (ℕ × ℕ)) → IsElementOf ns c i v → content_at ns c ≡ property → IfNone found ((p j : ℕ) → IsEntryOf ns p j c → IsHeldBy ns c v → ⊥) → IfNone found ((p j : ℕ) → StepsTo ns p j v → ⊥)
  none_through c i v None at is none = not_through c i v at is none
  none_through c i v (Some s) at is none = tt

  -- an element of what is no object is no entry
  pub not_entry : (c i r : ℕ) → IsElementOf ns c i r → (content_at ns c ≡ object → ⊥) → (p j : ℕ) → IsEntryOf ns p j r → ⊥
  not_entry c i r at no_object p j entry = no_object (subst (λ z. content_at ns z ≡ object) (container_once p c j i r entry.1 at) entry.0)

  -- the steps that lead to a value are from one container
  pub source_once : (p q i j v : ℕ) → StepsTo ns p i v → StepsTo ns q j v → p ≡ q
  source_once p q i j v (in_array a e) (in_array b f) = container_once p q i j v e f
  source_once p q i j v (in_array a e) (in_object {r = r} o f h) =
      absurd (no_array_is_property (content_at ns p) a (subst (λ z. content_at ns z ≡ property) (container_once r p 1 i v h.1 e) h.0))
  source_once p q i j v (in_object {r = r} o e h) (in_array b f) =
      absurd (no_array_is_property (content_at ns q) b (subst (λ z. content_at ns z ≡ property) (container_once r q 1 j v h.1 f) h.0))
  source_once p q i j v (in_object {r = r} o e h) (in_object {r = s} u f k) =
      container_once p q i j s (subst (λ z. IsElementOf ns p i z) (container_once r s 1 1 v h.1 k.1) e) f

  -- each path to the node goes through what a step to the value leads from
  pub covers_more : (n v p i : ℕ) → (IsElementOf ns 0 0 v → ⊥) → StepsTo ns p i v → Covers ns n v → Covers ns n p
  covers_more n v p i away s covers path at =
      let above = covers path at in
      let last = last_step ns above.0 v away above.1 in
      (last.2, subst (IsAt ns last.2) (source_once last.0 p last.1 i v last.4 s) last.3)

  parent_higher : (n p : ℕ) → parent_at ns n ≡ Some p → length (upward ns (Some p)) < length (upward ns (Some n))
  parent_higher n p said =
      let whole = ap length (upward_is ns tree n (parent_there ns tree n p said).0) in
      let rest = ap (λ o. length (upward ns o)) said in
      omega (arith, whole, rest)

  -- fewer nodes are above what a step leads from
  pub step_higher : (p i v : ℕ) → StepsTo ns p i v → length (upward ns (Some p)) < length (upward ns (Some v))
  step_higher p i v (in_array a e) = parent_higher v p (element_parent ns tree p i v e)
  step_higher p i v (in_object {r = r} o e h) =
      let outer = parent_higher r p (element_parent ns tree p i r e) in
      let inner = parent_higher v r (element_parent ns tree r 1 v h.1) in
      omega (arith, outer, inner)
