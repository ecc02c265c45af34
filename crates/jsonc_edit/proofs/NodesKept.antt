-- Nodes that stay what they were while others are built: their paths and rows stay too.
use Rattle.std.proofs.Common.{◌≡◌, ℕ, suc, ◌<◌, ◌≤◌, Bool, cond, List, [], ◌∷◌, length, slice_index, slice_get, filter, Some, refl, sym, ap, subst, ◌∙◌, arith}
use Rattle.std.proofs.lemmas.List.Elements.{All-from_get_or}
use Rattle.jsonc_tree.specs.Content.{Content, property}
use Rattle.jsonc_tree.specs.Tree.{Node, content_at, parent_at, children_at, place_at, place_among, place_under, IsTree, IsOver}
use Rattle.jsonc_tree.specs.OrderedTree.{OrderedTree, none, more, Shows, ordered_tree}
use Rattle.jsonc_tree.specs.Building.{Keeps, Builds}
use Rattle.jsonc_tree.proofs.Order.{parent_there}
use Rattle.jsonc_tree.proofs.OrderedTrees.{Shows-unique}
use Rattle.jsonc_tree.proofs.Builder.{Shows-keeps}
use Rattle.jsonc_layout.specs.nodes.Kinds.{is_element, is_element_at}
use Rattle.jsonc_layout.specs.nodes.Properties.{value_at}
use Rattle.jsonc_layout.specs.nodes.Siblings.{elements_at}
use Rattle.jsonc_layout.proofs.lemmas.nodes.PropertyValues.{IsAlike, held_alike, held_in, same_kind, value_is_held}
use Rattle.jsonc_edit.specs.Paths.{IsElementOf, StepsTo, LeadsTo, itself, step, IsAt}
use Rattle.jsonc_edit.specs.Changes.{row_below, top_at}
use Rattle.jsonc_edit.proofs.Uniqueness.{element_there}
use Rattle.jsonc_edit.proofs.ChangesUpward.{Shows-row_below}

pub filter_same : (f g : ℕ → Bool) (xs : List ℕ) → ((k : ℕ) → k < length xs → f (slice_index xs k) ≡ g (slice_index xs k)) → filter f xs ≡ filter g xs
filter_same f g [] same = refl
filter_same f g (x ∷ xs) same =
    let rest : filter f xs ≡ filter g xs = filter_same f g xs (λ k h. same (suc k) (omega arith)) in
    ap (λ b. cond b (x ∷ filter f xs) (filter f xs)) (same 0 (omega arith)) ∙ ap (λ l. cond (g x) (x ∷ l) l) rest

module _ (old new : List Node) (tree : IsTree old) (keeps : Keeps (length old) old new) where
  elements_kept : (p : ℕ) → p < length old → elements_at new p ≡ elements_at old p
  elements_kept p there =
      ap (filter (is_element_at new)) (keeps.children p there)
      ∙ filter_same (is_element_at new) (is_element_at old) (children_at old p) (λ k h. ap is_element (keeps.content (slice_index (children_at old p) k) (tree.in_tree p k h)))

  element_kept : (p i q : ℕ) → p < length old → IsElementOf old p i q → IsElementOf new p i q
  element_kept p i q there e = ap (λ l. slice_get l i) (elements_kept p there) ∙ e

  -- so does the value of a property
  held_kept : (r q : ℕ) → r < length old → content_at old r ≡ property → value_at old r ≡ Some q → value_at new r ≡ Some q
  held_kept r q there is e =
      value_is_held new r (keeps.content r there ∙ is) ∙ ap (held_in new) (keeps.children r there)
      ∙ held_alike old new (children_at old r) (All-from_get_or (IsAlike old new) (children_at old r) 0 (λ k h. let m = slice_index (children_at old r) k in same_kind (content_at new m) (content_at old m) (keeps.content m (tree.in_tree r k h))))
      ∙ sym (value_is_held old r is) ∙ e

  leads_kept : (n v : ℕ) (path : List ℕ) → v < length old → LeadsTo old n v path → LeadsTo new n v path
  leads_kept n _ _ there itself = itself
  leads_kept n v _ there (step {i = i} {q = q} {path = path} (StepsTo.in_array a e) rest) =
      step (StepsTo.in_array (keeps.content v there ∙ a) (element_kept v i q there e)) (leads_kept n q path (element_there old tree v i q e) rest)
  leads_kept n v _ there (step {i = i} {q = q} {path = path} (StepsTo.in_object {r = r} o e h) rest) =
      let held : r < length old = element_there old tree v i r e in
      step (StepsTo.in_object (keeps.content v there ∙ o) (element_kept v i r there e) (keeps.content r held ∙ h.0, element_kept r 1 q held h.1, held_kept r q held h.0 h.2)) (leads_kept n q path (element_there old tree r 1 q h.1) rest)

  -- a path leads where it led
  pub at_kept : (path : List ℕ) (n : ℕ) → IsAt old path n → IsAt new path n
  at_kept path n (v, e, leads) = (v, element_kept 0 0 v tree.first e, leads_kept n v path (element_there old tree 0 0 v e) leads)

  -- the row below a node is what it was
  pub row_kept : IsTree new → (n : ℕ) → n < length old → row_below new n ≡ row_below old n
  row_kept after n there =
      let shown : Shows new (children_at old n) (row_below old n) = Shows-keeps old new tree keeps (children_at old n) (row_below old n) (λ k h. tree.in_tree n k h) (Shows-row_below old tree n there) in
      Shows-unique new (children_at new n) (row_below new n) (row_below old n) (Shows-row_below new after n (omega (arith, there, keeps.len)))
      (subst (λ (l : List ℕ). Shows new l (row_below old n)) (sym (keeps.children n there)) shown)

  -- and so is the node with it
  pub top_stays : IsTree new → (n : ℕ) → n < length old → top_at new n ≡ top_at old n
  top_stays after n there =
      ap (λ (w : Content). record { content = w; below = row_below new n }) (keeps.content n there)
      ∙ ap (λ (t : OrderedTree). record { content = content_at old n; below = t }) (row_kept after n there)

  -- and the document
  pub tree_stays : IsTree new → ordered_tree new 0 ≡ ordered_tree old 0
  unfolding ordered_tree
  tree_stays after =
      ap (λ c. more c (row_below new 0) none) (keeps.content 0 tree.first) ∙ ap (λ t. more (content_at old 0) t none) (row_kept after 0 tree.first)

  -- a node that stands alone among the new ones is over no old one
  pub over_no_old : (m c : ℕ) → length old ≤ m → c < length old → IsOver new m c → ⊥
  over_no_old m _ later there IsOver.itself = omega (arith, later, there)
  over_no_old m c later there (IsOver.above {c = p} said rest) =
      over_no_old m p later (parent_there old tree c p (sym (keeps.parent c there) ∙ said)).1 rest

  -- a child has its place
  pub place_kept : (n c : ℕ) → parent_at old n ≡ Some c → place_at new n ≡ place_at old n
  place_kept n c said =
      let there = parent_there old tree n c said in
      ap (place_under new n) (keeps.parent n there.0 ∙ said)
      ∙ ap (λ l. place_among n l) (keeps.children c there.1)
      ∙ ap (place_under old n) (sym said)

-- what is over a node stays over it
pub over_keeps : {q : ℕ} (old ready : List Node) → IsTree old → Keeps (length old) old ready → (k : ℕ) → k < length old → IsOver old q k → IsOver ready q k
over_keeps old ready tree keeps _ there IsOver.itself = IsOver.itself
over_keeps old ready tree keeps k there (IsOver.above {c = p} said rest) = IsOver.above (keeps.parent k there ∙ said) (over_keeps old ready tree keeps p (parent_there old tree k p said).1 rest)

-- what was built is a node with the row below it
pub built_top : {a b : List Node} {n : ℕ} {content : Content} {below : OrderedTree} → Builds a b n content below → top_at b n ≡ record { content = content; below = below }
built_top {a} {b} {n} {content} {below} built =
    ap (λ (w : Content). record { content = w; below = row_below b n }) built.is
    ∙ ap (λ (t : OrderedTree). record { content = content; below = t }) (Shows-unique b (children_at b n) (row_below b n) below (Shows-row_below b built.tree n built.in_tree) built.shows)
