-- The way to a node stays where its row alone changes.
use Rattle.std.proofs.Common.{◌≡◌, ◌≢◌, ℕ, ◌<◌, List, length, filter, slice_get, slice_index, Some, sym, ap, ◌∙◌}
use Rattle.std.proofs.lemmas.List.Elements.{All-from_get_or}
use Rattle.std.specs.List.{All}
use Rattle.jsonc_tree.specs.Content.{property}
use Rattle.jsonc_tree.specs.Tree.{Node, content_at, parent_at, children_at, IsTree, IsOver}
use Rattle.jsonc_tree.proofs.Order.{not_over_parent, parent_there}
use Rattle.jsonc_tree.proofs.Over.{over_up}
use Rattle.jsonc_layout.specs.nodes.Kinds.{is_element, is_element_at}
use Rattle.jsonc_layout.specs.nodes.Properties.{value_at}
use Rattle.jsonc_layout.specs.nodes.Siblings.{elements_at}
use Rattle.jsonc_layout.proofs.lemmas.nodes.PropertyValues.{IsAlike, held_alike, held_in, same_kind, value_is_held}
use Rattle.jsonc_edit.specs.Paths.{IsElementOf, StepsTo, LeadsTo, itself, step, IsAt}
use Rattle.jsonc_edit.proofs.NodesKept.{filter_same}
use Rattle.jsonc_edit.proofs.Uniqueness.{element_parent, leads_over}
use Rattle.jsonc_edit.proofs.ChangesUpward.{over_through}

module _ (old new : List Node) (c : ℕ) (tree : IsTree old) (contents : (k : ℕ) → k < length old → content_at new k ≡ content_at old k) (children : (k : ℕ) → k < length old → k ≢ c → children_at new k ≡ children_at old k) where
  row_stays : (x : ℕ) → x < length old → x ≢ c → elements_at new x ≡ elements_at old x
  row_stays x there ne =
      ap (filter (is_element_at new)) (children x there ne)
      ∙ filter_same (is_element_at new) (is_element_at old) (children_at old x) (λ j h. ap is_element (contents (slice_index (children_at old x) j) (tree.in_tree x j h)))

  element_stays : (x j q : ℕ) → x ≢ c → IsElementOf old x j q → IsElementOf new x j q
  element_stays x j q ne e = ap (λ l. slice_get l j) (row_stays x (parent_there old tree q x (element_parent old tree x j q e)).1 ne) ∙ e

  alike : (r : ℕ) → All (IsAlike old new) (children_at old r)
  alike r =
      All-from_get_or (IsAlike old new) (children_at old r) 0
      (λ j h. let n = slice_index (children_at old r) j in same_kind (content_at new n) (content_at old n) (contents n (tree.in_tree r j h)))

  held_stays : (r q : ℕ) → r < length old → content_at old r ≡ property → r ≢ c → value_at old r ≡ Some q → value_at new r ≡ Some q
  held_stays r q there is ne e =
      value_is_held new r (contents r there ∙ is) ∙ ap (held_in new) (children r there ne) ∙ held_alike old new (children_at old r) (alike r) ∙ sym (value_is_held old r is) ∙ e

  -- a node over the one whose row changes
  module _ (n : ℕ) (below : IsOver old n c) where
    leads_stay : (x : ℕ) (path : List ℕ) → LeadsTo old n x path → LeadsTo new n x path
    leads_stay _ _ itself = itself
    leads_stay x _ (step {i = j} {q = q} {path = path} (StepsTo.in_array a e) rest) =
        let over = over_through old q n c (leads_over old tree n q path rest) below in
        let said : parent_at old q ≡ Some x = element_parent old tree x j q e in
        let apart : x ≢ c = λ same. not_over_parent old tree q c (said ∙ ap Some same) over in
        step (StepsTo.in_array (contents x (parent_there old tree q x said).1 ∙ a) (element_stays x j q apart e)) (leads_stay q path rest)
    leads_stay x _ (step {i = j} {q = q} {path = path} (StepsTo.in_object {r = r} o e held) rest) =
        let over = over_through old q n c (leads_over old tree n q path rest) below in
        let under : parent_at old q ≡ Some r = element_parent old tree r 1 q held.1 in
        let said : parent_at old r ≡ Some x = element_parent old tree x j r e in
        let there = (parent_there old tree q r under).1 in
        let apart_r : r ≢ c = λ same. not_over_parent old tree q c (under ∙ ap Some same) over in
        let apart_x : x ≢ c = λ same. not_over_parent old tree r c (said ∙ ap Some same) (over_up old q r c under over) in
        step (StepsTo.in_object (contents x (parent_there old tree r x said).1 ∙ o) (element_stays x j r apart_x e) (contents r there ∙ held.0, element_stays r 1 q apart_r held.1, held_stays r q there held.0 apart_r held.2)) (leads_stay q path rest)

    pub at_over : (path : List ℕ) → IsAt old path n → IsAt new path n
    at_over path (x, e, leads) =
        let said : parent_at old x ≡ Some 0 = element_parent old tree 0 0 x e in
        let apart : 0 ≢ c = λ same. not_over_parent old tree x c (said ∙ ap Some same) (over_through old x n c (leads_over old tree n x path leads) below) in
        (x, element_stays 0 0 x apart e, leads_stay x path leads)

  pub at_still : (path : List ℕ) → IsAt old path c → IsAt new path c
  at_still path at = at_over c IsOver.itself path at
