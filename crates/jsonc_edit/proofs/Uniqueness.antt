-- A path leads to one node, and in a tree one path leads to a node.
use Rattle.std.proofs.Common.{◌≡◌, ℕ, ◌<◌, List, ◌∷◌, length, take, filter, Some, inl, inr, refl, sym, ap, subst, ◌∙◌}
use Rattle.std.proofs.lemmas.Bool.{cases_eq}
use Rattle.jsonc_tree.specs.Content.{Content, array, object}
use Rattle.jsonc_tree.specs.Tree.{Node, content_at, parent_at, children_at, place_at, IsTree, IsOver}
use Rattle.jsonc_tree.proofs.Order.{not_over_parent, not_over_sibling}
use Rattle.jsonc_tree.proofs.Over.{either_over, over_up}
use Rattle.jsonc_layout.specs.nodes.Kinds.{is_element_at}
use Rattle.jsonc_edit.specs.Paths.{IsElementOf, StepsTo, in_array, in_object, LeadsTo, itself, step, IsAt}
use Rattle.jsonc_edit.proofs.Elements.{Some_same, StandsAt, stands_at}

pub no_kind_is_two : (content : Content) → content ≡ array → content ≡ object → ⊥
no_kind_is_two content a o = let wrong : array ≡ object = sym a ∙ o in cc

module _ (ns : List Node) where
  -- at a place is one element
  pub element_once : (p i q r : ℕ) → IsElementOf ns p i q → IsElementOf ns p i r → q ≡ r
  element_once p i q r e f = Some_same q r (sym e ∙ f)

  -- a step leads to one node
  pub step_once : (p i q r : ℕ) → StepsTo ns p i q → StepsTo ns p i r → q ≡ r
  step_once p i q r (in_array a e) (in_array b f) = element_once p i q r e f
  step_once p i q r (in_array a e) (in_object o f h) = absurd (no_kind_is_two (content_at ns p) a o)
  step_once p i q r (in_object o f h) (in_array a e) = absurd (no_kind_is_two (content_at ns p) a o)
  step_once p i q r (in_object {r = s} o f h) (in_object {r = t} u g k) =
      element_once s 1 q r h.1 (subst (λ z. IsElementOf ns z 1 r) (element_once p i t s g f) k.1)

  leads_once : (n m v : ℕ) (path : List ℕ) → LeadsTo ns n v path → LeadsTo ns m v path → n ≡ m
  leads_once n m _ _ itself itself = refl
  leads_once n m v _ (step {i = i} {q = q} {path = path} s rest) (step {q = r} t more) =
      leads_once n m q path rest (subst (λ z. LeadsTo ns m z path) (step_once v i r q t s) more)

  -- a path leads to one node
  pub node_once : (path : List ℕ) (n m : ℕ) → IsAt ns path n → IsAt ns path m → n ≡ m
  node_once path n m (v, e, a) (w, f, b) = leads_once n m v path a (subst (λ z. LeadsTo ns m z path) (element_once 0 0 w v f e) b)

module _ (ns : List Node) (tree : IsTree ns) where
  -- an element's container is its parent
  pub element_parent : (p i q : ℕ) → IsElementOf ns p i q → parent_at ns q ≡ Some p
  element_parent p i q e =
      let at : StandsAt (is_element_at ns) (children_at ns p) i q = stands_at (is_element_at ns) (children_at ns p) i q e in
      ap (parent_at ns) (sym at.2) ∙ tree.named p at.0 at.1

  -- and it is there
  pub element_there : (p i q : ℕ) → IsElementOf ns p i q → q < length ns
  element_there p i q e =
      let at : StandsAt (is_element_at ns) (children_at ns p) i q = stands_at (is_element_at ns) (children_at ns p) i q e in
      subst (λ m. m < length ns) at.2 (tree.in_tree p at.0 at.1)

  -- an element has one place
  place_once : (p i j q : ℕ) → IsElementOf ns p i q → IsElementOf ns p j q → i ≡ j
  place_once p i j q e f =
      let cs : List ℕ = children_at ns p in
      let at : StandsAt (is_element_at ns) cs i q = stands_at (is_element_at ns) cs i q e in
      let also : StandsAt (is_element_at ns) cs j q = stands_at (is_element_at ns) cs j q f in
      let same : at.0 ≡ also.0 = sym (tree.placed p at.0 at.1) ∙ ap (place_at ns) (at.2 ∙ sym also.2) ∙ tree.placed p also.0 also.1 in
      sym at.4 ∙ ap (λ k. length (filter (is_element_at ns) (take k cs))) same ∙ also.4

  -- the element that a step goes through, which is over what the step leads to
  first_of_step : (p i q : ℕ) → StepsTo ns p i q → (w : ℕ) × IsElementOf ns p i w × (parent_at ns w ≡ Some p) × ((n : ℕ) → IsOver ns q n → IsOver ns w n)
  first_of_step p i q (in_array a e) = (q, e, element_parent p i q e, λ n over. over)
  first_of_step p i q (in_object {r = r} o e h) = (r, e, element_parent p i r e, λ n over. over_up ns q r n (element_parent r 1 q h.1) over)

  -- what a path leads through is over the node that it leads to
  pub leads_over : (n v : ℕ) (path : List ℕ) → LeadsTo ns n v path → IsOver ns v n
  leads_over n _ _ itself = IsOver.itself
  leads_over n v _ (step {i = i} {q = q} {path = path} s rest) =
      let w = first_of_step v i q s in over_up ns w.0 v n w.2 (w.3 n (leads_over n q path rest))

  -- no step leads back
  pub no_way_back : (n i q : ℕ) (path : List ℕ) → StepsTo ns n i q → LeadsTo ns n q path → ⊥
  no_way_back n i q path s rest =
      let w = first_of_step n i q s in not_over_parent ns tree w.0 n w.2 (w.3 n (leads_over n q path rest))

  -- of a container's children one is over a node
  pub one_over : (p a b n : ℕ) → parent_at ns a ≡ Some p → parent_at ns b ≡ Some p → IsOver ns a n → IsOver ns b n → a ≡ b
  one_over p a b n said told over also =
      elim (cases_eq a b) [
        | inl e ↦ e
        | inr ne ↦ absurd (elim (either_over ns a b n over also) [
          | inl up ↦ not_over_sibling ns tree a b p said told ne up
          | inr up ↦ not_over_sibling ns tree b a p told said (λ e. ne (sym e)) up
        ])
      ]

  -- two steps from a value towards a node are one
  steps_same : (p i j q r n : ℕ) → StepsTo ns p i q → StepsTo ns p j r → IsOver ns q n → IsOver ns r n → i ≡ j
  steps_same p i j q r n s t over also =
      let a = first_of_step p i q s in
      let b = first_of_step p j r t in
      let same = one_over p a.0 b.0 n a.2 b.2 (a.3 n over) (b.3 n also) in
      place_once p i j b.0 (subst (λ w. IsElementOf ns p i w) same a.1) b.1

  paths_same : (n m v : ℕ) (p q : List ℕ) → n ≡ m → LeadsTo ns n v p → LeadsTo ns m v q → p ≡ q
  paths_same n m _ _ _ e itself itself = refl
  paths_same n m _ _ _ e itself (step {i = i} {q = q} {path = path} s rest) = absurd (no_way_back n i q path s (subst (λ z. LeadsTo ns z q path) (sym e) rest))
  paths_same n m _ _ _ e (step {i = i} {q = q} {path = path} s rest) itself = absurd (no_way_back m i q path s (subst (λ z. LeadsTo ns z q path) e rest))
  paths_same n m v _ _ e (step {i = i} {q = q} {path = path} s rest) (step {i = j} {q = r} {path = other} t more) =
      let over : IsOver ns r n = subst (IsOver ns r) (sym e) (leads_over m r other more) in
      let same : i ≡ j = steps_same v i j q r n s t (leads_over n q path rest) over in
      let one : r ≡ q = step_once ns v j r q t (subst (λ k. StepsTo ns v k q) same s) in
      let tails : path ≡ other = paths_same n m q path other e rest (subst (λ z. LeadsTo ns m z other) one more) in
      ap (λ k. k ∷ path) same ∙ ap (λ l. j ∷ l) tails

  -- one path leads to a node
  pub path_once : (p q : List ℕ) (n : ℕ) → IsAt ns p n → IsAt ns q n → p ≡ q
  path_once p q n (v, e, a) (w, f, b) = paths_same n n v p q refl a (subst (λ z. LeadsTo ns n z q) (element_once ns 0 0 w v f e) b)

-- what stands at a path is a node of the document
pub over_at : (ns : List Node) → IsTree ns → (path : List ℕ) (n : ℕ) → IsAt ns path n → IsOver ns 0 n
over_at ns tree path n (v, e, leads) = over_up ns v 0 n (element_parent ns tree 0 0 v e) (leads_over ns tree n v path leads)
