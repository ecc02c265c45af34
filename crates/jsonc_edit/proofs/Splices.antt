-- What a change of one node makes of a document.
use Rattle.std.proofs.Common.{◌≡◌, ◌≢◌, ℕ, ◌+◌, ◌<◌, List, [], ◌∷◌, length, slice_index, Some, sym, ap, subst, ◌∙◌, arith}
use Rattle.std.specs.List.{splice}
use Rattle.jsonc_tree.specs.Content.{Content}
use Rattle.jsonc_tree.specs.Tree.{Node, content_at, parent_at, children_at, place_at, IsTree, IsOver}
use Rattle.jsonc_tree.specs.Changes.{Splices}
use Rattle.jsonc_tree.specs.OrderedTree.{OrderedTree, Shows, Top}
use Rattle.jsonc_tree.proofs.Order.{not_over_parent, over_step, parent_there}
use Rattle.jsonc_tree.proofs.Over.{over_up}
use Rattle.jsonc_tree.proofs.OrderedTrees.{Shows-unique}
use Rattle.jsonc_tree.proofs.SplicedTrees.{Shows-spliced}
use Rattle.jsonc_layout.specs.nodes.Kinds.{is_element_at}
use Rattle.jsonc_sound.specs.TreeChanges.{IsElement}
use Rattle.jsonc_edit.specs.Paths.{IsElementOf}
use Rattle.jsonc_edit.specs.Changes.{row_below, top_at, ChangesAt, Replaces, Respliced, LeafChanged}
use Rattle.jsonc_edit.specs.Laws.{ChangesElementsOver, ChangesOver, KeepsOthers, HasNewContent, HasNewRow}
use Rattle.jsonc_edit.proofs.Elements.{Some_same, StandsAt, stands_at}
use Rattle.jsonc_edit.proofs.Uniqueness.{element_parent}
use Rattle.jsonc_edit.proofs.ChangesUpward.{Shows-row_below, ChangedIn, RowChanged, apart_kept, top_kept, row_changed, document_changed, changed_over}

pub spliced_in : (old new : List Node) (c i j : ℕ) (xs : List ℕ) → IsTree old → Splices old new c i j xs → ChangedIn old new c
spliced_in old new c i j xs tree spliced = record {
  tree = tree;
  content = λ n ne. spliced.content n;
  children = λ n ne. (spliced.others n ne);
}

module _ (old new : List Node) (n m : ℕ) (r : Replaces old new n m) where
  abbrev c : ℕ
  c = r.container

  abbrev k : ℕ
  k = place_at old n

  changed : ChangedIn old new c
  changed = spliced_in old new c k (k + 1) (m ∷ []) r.tree r.spliced

  m_there : m < length old
  m_there = r.join.in_tree 0 (omega arith)

  -- what is put in is what it was
  pub joined_top : top_at new m ≡ top_at old m
  joined_top = top_kept old new c changed r.after r.spliced.len m m_there (r.join.not_over 0 (omega arith))

  joined_kept : Shows new (children_at new m) (row_below old m)
  joined_kept = subst (λ (t : Top). Shows new (children_at new m) t.below) joined_top (Shows-row_below new r.after m (omega (arith, m_there, r.spliced.len)))

  -- the container's row differs in the node that was replaced
  replaced_row : (p i : ℕ) → IsElementOf old p i n → RowChanged old new p i (top_at old n) (top_at old m)
  replaced_row p i element =
      let said : parent_at old n ≡ Some p = element_parent old r.tree p i n element in
      let there = parent_there old r.tree n p said in
      let is : p ≡ c = Some_same p c (sym said ∙ r.parent) in
      let at : StandsAt (is_element_at old) (children_at old p) i n = stands_at (is_element_at old) (children_at old p) i n element in
      let place : k ≡ at.0 = ap (place_at old) (sym at.2) ∙ r.tree.placed p at.0 at.1 in
      let kids : children_at new p ≡ splice (children_at old p) at.0 (at.0 + 1) (m ∷ []) =
      ap (children_at new) is ∙ r.spliced.children ∙ ap (λ z. splice (children_at old c) z (z + 1) (m ∷ [])) place ∙ ap (λ z. splice (children_at old z) at.0 (at.0 + 1) (m ∷ [])) (sym is) in
      let kind : IsElement (content_at new m) = subst IsElement (sym (r.spliced.content m)) r.element in
      let row = row_changed old new c changed p i n m (row_below old n) (row_below old m) at there.1
      (λ e h apart over. not_over_parent old r.tree (slice_index (children_at old p) e) p (r.tree.named p e h) (subst (IsOver old (slice_index (children_at old p) e)) (sym is) over))
      kids kind (Shows-row_below old r.tree n there.0) joined_kept in
      subst (λ (w : Content). RowChanged old new p i (top_at old n) (record { content = w; below = row_below old m })) (r.spliced.content m) row

  replaced_above : (p q : ℕ) → parent_at old q ≡ Some p → IsOver old q n → (IsOver old p c) × (content_at new p ≡ content_at old p)
  replaced_above p q said over =
      let ne : n ≢ p = λ e. not_over_parent old r.tree q n (said ∙ ap Some (sym e)) over in
      (over_step old r.tree p n c (over_up old q p n said over) ne r.parent, r.spliced.content p)

  pub replaced_at_path : ChangesAt old new n (top_at old m)
  replaced_at_path path at = document_changed old new c changed n (top_at old n) (top_at old m) replaced_row replaced_above path r.after at

module _ (old new : List Node) (c : ℕ) (s : Respliced old new c) where
  abbrev respliced : ChangedIn old new c
  respliced = spliced_in old new c s.from s.to s.put s.tree s.spliced

  pub respliced_over : ChangesOver old new c
  respliced_over n over = changed_over old new c respliced s.after s.spliced.len n over (λ element. subst IsElement (sym (s.spliced.content n)) element)

  pub respliced_others : KeepsOthers old new c
  respliced_others = top_kept old new c respliced s.after s.spliced.len

  -- the row that the container's children stand for now
  pub respliced_row : HasNewRow s
  respliced_row front inner back before put later =
      Shows-unique new (children_at new c) (row_below new c) _ (Shows-row_below new s.after c (omega (arith, s.in_tree, s.spliced.len)))
      (Shows-spliced old new s.tree s.after c s.from s.to s.put s.spliced s.join front inner back before put later)

module _ (old new : List Node) (leaf : ℕ) (r : LeafChanged old new leaf) where
  changed_leaf : ChangedIn old new leaf
  changed_leaf = record {
    tree = r.tree;
    content = r.becomes.others;
    children = λ n ne. r.becomes.children n;
  }

  pub leaf_over : ChangesElementsOver old new leaf
  leaf_over = changed_over old new leaf changed_leaf r.after r.becomes.len

  pub leaf_others : KeepsOthers old new leaf
  leaf_others = top_kept old new leaf changed_leaf r.after r.becomes.len

  -- what is below the leaf stays
  pub leaf_content : HasNewContent r
  leaf_content =
      let cs : List ℕ = children_at old leaf in
      let row : Shows new cs (row_below old leaf) = apart_kept old new leaf changed_leaf cs (row_below old leaf) (λ k h. not_over_parent old r.tree (slice_index cs k) leaf (r.tree.named leaf k h)) (Shows-row_below old r.tree leaf r.in_tree) in
      let shown : Shows new (children_at new leaf) (row_below old leaf) = subst (λ (l : List ℕ). Shows new l (row_below old leaf)) (sym (r.becomes.children leaf)) row in
      let same : row_below new leaf ≡ row_below old leaf = Shows-unique new (children_at new leaf) (row_below new leaf) (row_below old leaf) (Shows-row_below new r.after leaf (omega (arith, r.in_tree, r.becomes.len))) shown in
      let first : top_at new leaf ≡ record { content = r.content; below = row_below new leaf } = ap (λ (w : Content). record { content = w; below = row_below new leaf }) r.becomes.content in
      first ∙ ap (λ (t : OrderedTree). record { content = r.content; below = t }) same
