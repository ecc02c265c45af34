-- A new node stands at the path of the node that was replaced by it.
use Rattle.std.proofs.Common.{◌≡◌, ◌≢◌, ℕ, ◌+◌, ◌<◌, All, Bool, true, List, [], ◌∷◌, ◌++◌, length, take, drop, slice_get, slice_index, filter, Some, ◌⊎◌, inl, inr, refl, sym, ap, subst, ◌∙◌, arith, length-take, length-drop, get_or-take, get_or-drop}
use Rattle.std.proofs.lemmas.Bool.{cases_Bool}
use Rattle.std.proofs.lemmas.List.{drop_more, take-append-drop}
use Rattle.std.proofs.lemmas.List.Elements.{All-from_get_or}
use Rattle.std.specs.List.{splice}
use Rattle.jsonc_tree.specs.Content.{property}
use Rattle.jsonc_tree.specs.Tree.{Node, content_at, parent_at, children_at, place_at, IsTree, IsOver}
use Rattle.jsonc_tree.proofs.Order.{not_over_parent}
use Rattle.jsonc_tree.proofs.Over.{over_up}
use Rattle.jsonc_layout.specs.nodes.Kinds.{is_element, is_element_at}
use Rattle.jsonc_layout.specs.nodes.Properties.{value_at}
use Rattle.jsonc_layout.specs.nodes.Siblings.{elements_at}
use Rattle.jsonc_layout.proofs.lemmas.nodes.PropertyValues.{IsAlike, held_alike, held_in, held_replaced, value_is_held}
use Rattle.jsonc_layout.proofs.lemmas.nodes.PropertyValues as kinds
use Rattle.jsonc_tree.specs.OrderedTree.{Top}
use Rattle.jsonc_sound.specs.TreeChanges.{IsElement}
use Rattle.jsonc_edit.specs.Paths.{IsElementOf, IsHeldBy, StepsTo, LeadsTo, itself, step, IsAt}
use Rattle.jsonc_edit.proofs.Elements.{taken, left, StandsAt, stands_at}
use Rattle.jsonc_edit.proofs.ReplacedChildren.{InPlace}
use Rattle.jsonc_edit.proofs.NodesKept.{filter_same}
use Rattle.jsonc_edit.proofs.Uniqueness.{element_parent, leads_over, no_way_back, one_over}

-- what passes is found behind as many as pass before it
pub found_behind : (test : ℕ → Bool) (front : List ℕ) (m : ℕ) (rest : List ℕ) → test m ≡ true → slice_get (filter test (front ++ m ∷ rest)) (length (filter test front)) ≡ Some m
found_behind test [] m rest h = ap (λ l. slice_get l 0) (taken test m rest h)
found_behind test (x ∷ front) m rest h =
    let others = found_behind test front m rest h in
    elim (cases_Bool (test x)) [
      | inl passes ↦ ap (λ l. slice_get l (length (filter test (x ∷ front)))) (taken test x (front ++ m ∷ rest) passes) ∙ ap (λ l. slice_get (x ∷ filter test (front ++ m ∷ rest)) (length l)) (taken test x front passes) ∙ others
      | inr fails ↦ ap (λ l. slice_get l (length (filter test (x ∷ front)))) (left test x (front ++ m ∷ rest) fails) ∙ ap (λ l. slice_get (filter test (front ++ m ∷ rest)) (length l)) (left test x front fails) ∙ others
    ]

module _ (old new : List Node) (tree : IsTree old) (n m : ℕ) (now : Top) (g : InPlace old new n m now) (element : IsElement now.content) where
  new_element : is_element_at new m ≡ true
  new_element = subst IsElement (sym (ap (λ (t : Top). t.content) g.put)) element

  same_kind : (k : ℕ) → is_element_at new k ≡ is_element_at old k
  same_kind k = ap is_element (g.contents k)

  row_stays : (p : ℕ) → parent_at old n ≢ Some p → elements_at new p ≡ elements_at old p
  row_stays p ne =
      ap (filter (is_element_at new)) (g.children p ne)
      ∙ filter_same (is_element_at new) (is_element_at old) (children_at old p) (λ k h. same_kind (slice_index (children_at old p) k))

  -- nodes are of the kinds that they were
  alike : (row : List ℕ) → All (IsAlike old new) row
  alike row = All-from_get_or (IsAlike old new) row 0 (λ k h. let j = slice_index row k in kinds.same_kind (content_at new j) (content_at old j) (g.contents j))

  -- so another property has the value that it had
  pub other_held : (r q : ℕ) → content_at old r ≡ property → parent_at old n ≢ Some r → value_at old r ≡ Some q → value_at new r ≡ Some q
  other_held r q is ne e =
      value_is_held new r (g.contents r ∙ is) ∙ ap (held_in new) (g.children r ne) ∙ held_alike old new (children_at old r) (alike (children_at old r)) ∙ sym (value_is_held old r is) ∙ e

  -- and the one whose value n was has the new node
  module _ (r : ℕ) (is : content_at old r ≡ property) (said : parent_at old n ≡ Some r) (held : value_at old r ≡ Some n) where
    abbrev row : List ℕ
    row = children_at old r

    abbrev place : ℕ
    place = place_at old n

    abbrev front : List ℕ
    front = take place row

    abbrev back : List ℕ
    back = drop (place + 1) row

    row_is : row ≡ front ++ n ∷ back
    row_is = sym (take-append-drop place row) ∙ ap (λ l. front ++ l) (drop_more row place 0 (tree.within n r said) ∙ ap (λ k. k ∷ back) (tree.found n r said))

    apart : (k : ℕ) → k < length row → k ≢ place → slice_index row k ≢ n
    apart k h ne e = ne (sym (tree.placed r k h) ∙ ap (place_at old) e)

    before : All (λ k. k ≢ n) front
    before =
        All-from_get_or (λ k. k ≢ n) front 0 (λ k h e.
        let low : k < place = omega (arith, h, length-take place row) in
        apart k (omega (arith, low, tree.within n r said)) (λ same. omega (arith, same, low)) (sym (get_or-take place row k 0 low) ∙ e))

    behind : All (λ k. k ≢ n) back
    behind =
        All-from_get_or (λ k. k ≢ n) back 0 (λ k h e. apart (place + 1 + k) (omega (arith, h, length-drop (place + 1) row)) (λ same. omega (arith, same)) (sym (get_or-drop (place + 1) row k 0) ∙ e))

    pub put_held : value_at new r ≡ Some m
    put_held =
        value_is_held new r (g.contents r ∙ is) ∙ ap (held_in new) (g.row r said)
        ∙ held_replaced old new n m front back before behind (alike front) new_element (ap (held_in old) (sym row_is) ∙ sym (value_is_held old r is) ∙ held)

  -- in the row of the old node
  put_element : (p i : ℕ) → IsElementOf old p i n → IsElementOf new p i m
  put_element p i e =
      let cs : List ℕ = children_at old p in
      let at : StandsAt (is_element_at old) cs i n = stands_at (is_element_at old) cs i n e in
      let place : place_at old n ≡ at.0 = ap (place_at old) (sym at.2) ∙ tree.placed p at.0 at.1 in
      let front : List ℕ = take at.0 cs in
      let back : List ℕ = drop (at.0 + 1) cs in
      let kids : children_at new p ≡ front ++ m ∷ back = g.row p (element_parent old tree p i n e) ∙ ap (λ z. splice cs z (z + 1) (m ∷ [])) place in
      let kinds : filter (is_element_at new) front ≡ filter (is_element_at old) front = filter_same (is_element_at new) (is_element_at old) front (λ k h. same_kind (slice_index front k)) in
      let count : length (filter (is_element_at new) front) ≡ i = ap length kinds ∙ at.4 in
      ap (λ l. slice_get (filter (is_element_at new) l) i) kids
      ∙ subst (λ j. slice_get (filter (is_element_at new) (front ++ m ∷ back)) j ≡ Some m) count (found_behind (is_element_at new) front m back new_element)

  -- above it
  other_element : (p i q : ℕ) → IsElementOf old p i q → q ≢ n → IsOver old q n → IsElementOf new p i q
  other_element p i q e ne over =
      let said = element_parent old tree p i q e in
      ap (λ l. slice_get l i) (row_stays p (λ told. ne (one_over old tree p q n n said told over IsOver.itself))) ∙ e

  -- from the old node the path ended, and from a value above it, it leads to the new one
  abbrev Leads : ℕ → List ℕ → Type 0
  Leads v path = ((v ≡ n) × LeadsTo new m m path) ⊎ ((v ≢ n) × LeadsTo new m v path)

  abbrev LeadsFrom : ℕ → ℕ → List ℕ → Type 0
  LeadsFrom p i path = (w : ℕ) × IsElementOf new p i w × LeadsTo new m w path

  leads_from : (p i q : ℕ) (path : List ℕ) → IsElementOf old p i q → IsOver old q n → Leads q path → LeadsFrom p i path
  leads_from p i q path e over (inl (same, leads)) = (m, put_element p i (subst (λ z. IsElementOf old p i z) same e), leads)
  leads_from p i q path e over (inr (ne, leads)) = (q, other_element p i q e ne over, leads)

  -- the same from a property
  held_from : (r q : ℕ) (path : List ℕ) → IsHeldBy old r q → IsOver old q n → Leads q path → (w : ℕ) × IsHeldBy new r w × LeadsTo new m w path
  held_from r q path h over (inl (same, leads)) =
      let here : IsHeldBy old r n = subst (λ z. IsHeldBy old r z) same h in
      (m, (g.contents r ∙ h.0, put_element r 1 here.1, put_held r h.0 (element_parent old tree r 1 n here.1) here.2), leads)
  held_from r q path h over (inr (ne, leads)) =
      let apart : parent_at old n ≢ Some r = λ told. ne (one_over old tree r q n n (element_parent old tree r 1 q h.1) told over IsOver.itself) in
      (q, (g.contents r ∙ h.0, other_element r 1 q h.1 ne over, other_held r q h.0 apart h.2), leads)

  steps_from : (v i q : ℕ) (path : List ℕ) → StepsTo old v i q → IsOver old q n → Leads q path → LeadsTo new m v (i ∷ path)
  steps_from v i q path (StepsTo.in_array a e) over leads =
      let w = leads_from v i q path e over leads in
      step (StepsTo.in_array (g.contents v ∙ a) w.1) w.2
  steps_from v i q path (StepsTo.in_object {r = r} o f h) over leads =
      let w = held_from r q path h over leads in
      let held : parent_at old q ≡ Some r = element_parent old tree r 1 q h.1 in
      let ne : r ≢ n = λ e. not_over_parent old tree q n (held ∙ ap Some e) over in
      step (StepsTo.in_object (g.contents v ∙ o) (other_element v i r f ne (over_up old q r n held over)) w.1) w.2

  leads_now : (v : ℕ) (path : List ℕ) → LeadsTo old n v path → Leads v path
  leads_now v _ itself = inl (refl, itself)
  leads_now v _ (step {i = i} {q = q} {path = path} s rest) =
      inr (λ e. no_way_back old tree n i q path (subst (λ z. StepsTo old z i q) e s) rest, steps_from v i q path s (leads_over old tree n q path rest) (leads_now q path rest))

  pub at_now : (path : List ℕ) → IsAt old path n → IsAt new path m
  at_now path (v, e, leads) = leads_from 0 0 v path e (leads_over old tree n v path leads) (leads_now v path leads)
