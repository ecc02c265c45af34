-- The elements of an array or object that has been sorted, read anew, are the old ones in the order.
use Rattle.std.proofs.Common.{◌≡◌, ℕ, ◌-◌, ◌+◌, ◌<◌, ◌≤◌, Bool, true, false, not, cond, ◌&&◌, inl, inr, List, [], ◌∷◌, ◌++◌, All, length, map, filter, take, drop, reverse, slice_index, Some, IsTrue, refl, sym, ap, subst, ◌∙◌, arith}
use Rattle.std.specs.Prelude.{IsPermutation}
use Rattle.std.specs.List.{range_with_len, splice}
use Rattle.std.proofs.lemmas.Bool.{and_from, and_parts, cases_Bool}
use Rattle.std.proofs.lemmas.List.{drop_all, drop_more, reverse-append}
use Rattle.std.proofs.lemmas.List.Elements.{All-drop, All-filter, All-from_get_or, All-take}
use Rattle.std.proofs.lemmas.Slice.Eq.{bytes_eq-Decides}
use Rattle.jsonc_tree.specs.Building.{Keeps}
use Rattle.jsonc_tree.specs.Content.{Content}
use Rattle.jsonc_tree.specs.Siblings.{first}
use Rattle.jsonc_tree.specs.Tree.{Node, content_at, parent_at, children_at, IsTree, IsOver}
use Rattle.jsonc_tree.specs.declared.node.CstNewlineKind.{CstNewlineKind}
use Rattle.jsonc_tree.proofs.Order.{not_over_parent}
use Rattle.jsonc_layout.specs.nodes.Kinds.{is_element, is_element_at, is_token}
use Rattle.jsonc_layout.specs.nodes.Siblings.{elements_at}
use Rattle.jsonc_layout.specs.lines.Breadth.{newline_kind_at}
use Rattle.jsonc_edit.specs.Changes.{top_at}
use Rattle.jsonc_edit.proofs.NodesKept.{top_stays}
use Rattle.jsonc_edit.proofs.Splices.{spliced_in}
use Rattle.jsonc_edit.proofs.ChangesUpward.{top_kept}
use Rattle.jsonc_edit.specs.remove.Removed.{has_brackets, has_two, is_token_at}
use Rattle.jsonc_edit.specs.multiline.Lines.{between}
use Rattle.jsonc_edit.specs.multiline.Multiline.{TakesRow}
use Rattle.jsonc_edit.specs.multiline.Slots.{AreFilled, no_more, stayed, came}
use Rattle.jsonc_edit.proofs.lemmas.multiline.WholeRow.{two_there}
use Rattle.jsonc_edit.proofs.lemmas.multiline.BracketedRows.{between_is}
use Rattle.jsonc_sort.specs.Slots.{Slot, stays, comes, all_stay}
use Rattle.jsonc_sort.specs.Sorting.{Headers, entries, is_unchanged, lines_ended, rearranged, row_end, sorted}
use Rattle.jsonc_sort.specs.Rearranged.{IsOrderIn, Rearranged, row_sorted}
use Rattle.jsonc_sort.proofs.Choices.{Each, all_each, all_members}
use Rattle.jsonc_sort.proofs.Lines.{Held, rearranged_held}
use Rattle.jsonc_sort.proofs.PlannedRow.{order_long}
use Rattle.jsonc_sort.proofs.SortedRow.{elements_between, lines_held, parted}
use Rattle.jsonc_sort.proofs.Values.{elements}
use Rattle.jsonc_sort.proofs.Weights.{entry_count}
use Rattle.jsonc_sort.specs.again.Again.{ComesInOrder, ElementsCome}
use Rattle.jsonc_sort.proofs.lemmas.again.Elements.{elements_in_order}
use Rattle.jsonc_sort.proofs.Orders.{not_moved}

-- places that are all of children that stay
none_stay : (xs : List ℕ) → [] ≡ all_stay xs → [] ≡ xs
none_stay [] e = refl
none_stay (x ∷ xs) e = cc

record Headed (n : ℕ) (slots : List Slot) (xs : List ℕ) : Type 0 where
  rest : List ℕ
  is : n ∷ rest ≡ xs
  same : slots ≡ all_stay rest

headed : (n : ℕ) (slots : List Slot) (xs : List ℕ) → stays n ∷ slots ≡ all_stay xs → Headed n slots xs
headed n slots [] e = cc
headed n slots (x ∷ xs) e = let one : n ≡ x = cc in let two : slots ≡ all_stay xs = cc in record { rest = xs; is = ap (λ y. y ∷ xs) one; same = two }

none_comes : (content : Content) (slots : List Slot) (xs : List ℕ) → comes content ∷ slots ≡ all_stay xs → ⊥
none_comes content slots [] e = cc
none_comes content slots (x ∷ xs) e = cc

-- nodes that fill places have the elements that stand in these
module _ (old ready new : List Node) (keeps : Keeps (length old) old ready) (put : (n : ℕ) → content_at new n ≡ content_at ready n) where
  abbrev There : Slot → Type 0
  There = Held (content_at old) (λ n. n < length old)

  kept_on : (n : ℕ) (row xs : List ℕ) → is_element_at new n ≡ false → filter (is_element_at new) row ≡ xs → filter (is_element_at new) (n ∷ row) ≡ xs
  kept_on n row xs e f = ap (λ b. cond b (n ∷ filter (is_element_at new) row) (filter (is_element_at new) row)) e ∙ f

  filled_elements : {slots : List Slot} {row : List ℕ} → AreFilled old ready slots row → Each There slots → (xs : List ℕ) → elements (content_at old) slots ≡ all_stay xs → filter (is_element_at new) row ≡ xs
  filled_elements no_more h xs e = none_stay xs e
  filled_elements (stayed {n = n} {slots = slots} {row = row} rest) h xs e =
      let same : is_element_at new n ≡ is_element (content_at old n) = ap is_element (put n ∙ keeps.content n h.0) in
      let more : List Slot = elements (content_at old) slots in
      elim (cases_Bool (is_element (content_at old n))) [
        | inl holds ↦
            let there = headed n more xs (sym (ap (λ b. cond b (stays n ∷ more) more) holds) ∙ e) in
            ap (λ b. cond b (n ∷ filter (is_element_at new) row) (filter (is_element_at new) row)) (same ∙ holds)
            ∙ ap (λ l. n ∷ l) (filled_elements rest h.1 there.rest there.same) ∙ there.is
        | inr fails ↦ kept_on n row xs (same ∙ fails) (filled_elements rest h.1 xs (sym (ap (λ b. cond b (stays n ∷ more) more) fails) ∙ e))
      ]
  filled_elements (came {n = n} {content = content} {slots = slots} {row = row} later near is alone rest) h xs e =
      let same : is_element_at new n ≡ is_element content = ap is_element (put n ∙ is) in
      let more : List Slot = elements (content_at old) slots in
      elim (cases_Bool (is_element content)) [
        | inl holds ↦ absurd (none_comes content more xs (sym (ap (λ b. cond b (comes content ∷ more) more) holds) ∙ e))
        | inr fails ↦ kept_on n row xs (same ∙ fails) (filled_elements rest h.1 xs (sym (ap (λ b. cond b (comes content ∷ more) more) fails) ∙ e))
      ]

two_of : (x y : ℕ) (inner : List ℕ) → has_two (x ∷ (inner ++ y ∷ [])) ≡ true
two_of x y [] = refl
two_of x y (m ∷ inner) = refl

ends_token : (ns : List Node) (x y : ℕ) (inner : List ℕ) → is_token_at ns (first (reverse (x ∷ (inner ++ y ∷ [])))) ≡ is_token (content_at ns y)
ends_token ns x y inner = ap (λ l. is_token_at ns (first l)) (reverse-append (x ∷ inner) (y ∷ []))

-- both ends of a bracketed row are tokens
record Ends (ns : List Node) (x y : ℕ) : Type 0 where
  one : is_token (content_at ns x) ≡ true
  two : is_token (content_at ns y) ≡ true

bracketed : (ns : List Node) (c x y : ℕ) (inner : List ℕ) → children_at ns c ≡ x ∷ (inner ++ y ∷ []) → Ends ns x y → IsTrue (has_brackets ns c)
bracketed ns c x y inner parts ends =
    subst (λ (l : List ℕ). IsTrue (has_two l && (is_token_at ns (first l) && is_token_at ns (first (reverse l))))) (sym parts)
    (and_from _ _ (two_of x y inner) (and_from _ _ ends.one (ends_token ns x y inner ∙ ends.two)))

ends_of : (ns : List Node) (c x y : ℕ) (inner : List ℕ) → children_at ns c ≡ x ∷ (inner ++ y ∷ []) → IsTrue (has_brackets ns c) → Ends ns x y
ends_of ns c x y inner parts whole =
    let both : IsTrue (has_two (x ∷ (inner ++ y ∷ [])) && (is_token_at ns (first (x ∷ (inner ++ y ∷ []))) && is_token_at ns (first (reverse (x ∷ (inner ++ y ∷ [])))))) =
    subst (λ (l : List ℕ). IsTrue (has_two l && (is_token_at ns (first l) && is_token_at ns (first (reverse l))))) parts whole in
    let tokens = and_parts _ _ (and_parts _ _ both).1 in
    record { one = tokens.0; two = sym (ends_token ns x y inner) ∙ tokens.1 }

all_move : (a u : Bool) → a ≡ true → u ≡ false → (a && not u) ≡ true
all_move a u e f = ap (λ x. x && not u) e ∙ ap not f

module _ (old new : List Node) (c : ℕ) (h : Headers) (order : List ℕ) (tree : IsTree old) (there : c < length old) (whole : IsTrue (has_brackets old c)) (perm : IsOrderIn old c order) where
  abbrev at : ℕ → Content
  at = content_at old

  abbrev kids : List ℕ
  kids = children_at old c

  abbrev inner : List ℕ
  inner = between kids

  abbrev was : List ℕ
  was = elements_at old c

  abbrev x : ℕ
  x = slice_index kids 0

  abbrev y : ℕ
  y = slice_index kids (length kids - 1)

  kids_are : kids ≡ x ∷ (inner ++ y ∷ [])
  kids_are = parted kids (two_there old c whole)

  kids_there : All (λ n. n < length old) kids
  kids_there = All-from_get_or (λ n. n < length old) kids 0 (λ k l. tree.in_tree c k l)

  inner_there : Each (λ n. n < length old) inner
  inner_there = all_each (λ n. n < length old) inner (All-take (λ n. n < length old) (length kids - 1 - 1) (drop 1 kids) (All-drop (λ n. n < length old) 1 kids kids_there))

  -- where the order is the old one
  in_order : is_unchanged order ≡ true → was ≡ map (slice_index was) order
  in_order e =
      let same : order ≡ range_with_len 0 (length order) = (bytes_eq-Decides order (range_with_len 0 (length order))).0 e in
      sym (all_members 0 was) ∙ ap (λ (n : ℕ). map (slice_index was) (range_with_len 0 n)) (sym (order_long (length was) order perm)) ∙ ap (map (slice_index was)) (sym same)

  stays_as : is_unchanged order ≡ true → ElementsCome old old c order
  stays_as e = record { elements = in_order e; same = λ i l. refl }

  -- the row has taken its place
  module _ (r : TakesRow old new c (row_sorted old c h order)) (moving : is_unchanged order ≡ false) where
    abbrev last : ℕ
    last = length kids - 1

    abbrev kind : CstNewlineKind
    kind = newline_kind_at old c

    abbrev moved : List Slot
    moved = lines_ended at kind (rearranged at (entries at h inner) order ++ all_stay (row_end at inner))

    entries_perm : IsPermutation (range_with_len 0 (length (entries at h inner))) order
    entries_perm = subst (λ n. IsPermutation (range_with_len 0 n) order) (ap length (elements_between old c whole) ∙ sym (entry_count at h inner)) perm

    moved_there : Each (Held at (λ n. n < length old)) moved
    moved_there = lines_held at (λ n. n < length old) kind (rearranged at (entries at h inner) order ++ all_stay (row_end at inner)) (rearranged_held at (λ n. n < length old) h inner order inner_there entries_perm)

    sorted_is : sorted at kind h inner order ≡ moved
    sorted_is = rw moving refl

    row_elements : filter (is_element_at new) r.row ≡ map (slice_index (filter (is_element_at old) inner)) order
    row_elements =
        filled_elements old r.ready new r.prepared.keeps r.put.content (subst (λ (l : List Slot). AreFilled old r.ready l r.row) sorted_is r.filled) moved_there
        (map (slice_index (filter (is_element_at old) inner)) order) (elements_in_order at kind h inner order entries_perm)

    cut : splice kids 1 last r.row ≡ x ∷ (r.row ++ y ∷ [])
    cut =
        let two : 2 ≤ length kids = two_there old c whole in
        let back : drop last kids ≡ y ∷ [] = drop_more kids last 0 (omega (arith, two)) ∙ ap (λ l. y ∷ l) (drop_all (last + 1) kids (omega (arith, two))) in
        let front : take 1 kids ≡ x ∷ [] = ap (take 1) kids_are in
        ap (λ (l : List ℕ). l ++ (r.row ++ drop last kids)) front ∙ ap (λ (l : List ℕ). x ∷ (r.row ++ l)) back

    kids_now : children_at new c ≡ x ∷ (r.row ++ y ∷ [])
    kids_now = r.put.children ∙ ap (λ (l : List ℕ). splice l 1 last r.row) (r.prepared.keeps.children c there) ∙ cut

    token_stays : (n : ℕ) → n < length old → content_at new n ≡ content_at old n
    token_stays n l = r.put.content n ∙ r.prepared.keeps.content n l

    still_whole : IsTrue (has_brackets new c)
    still_whole =
        let two : 2 ≤ length kids = two_there old c whole in
        let ends : Ends old x y = ends_of old c x y inner kids_are whole in
        bracketed new c x y r.row kids_now (record {
          one = ap is_token (token_stays x (tree.in_tree c 0 (omega (arith, two)))) ∙ ends.one;
          two = ap is_token (token_stays y (tree.in_tree c last (omega (arith, two)))) ∙ ends.two;
        })

    now_are : elements_at new c ≡ map (slice_index was) order
    now_are =
        elements_between new c still_whole ∙ ap (filter (is_element_at new)) (ap between kids_now ∙ between_is x y r.row) ∙ row_elements
        ∙ ap (λ (l : List ℕ). map (slice_index l) order) (sym (elements_between old c whole))

    abbrev IsChild : ℕ → Type 0
    IsChild n = (parent_at old n ≡ Some c) × (n < length old)

    are_children : All IsChild was
    are_children = All-filter (is_element_at old) IsChild kids (All-from_get_or IsChild kids 0 (λ k l. (tree.named c k l, tree.in_tree c k l)))

    same_top : (i : ℕ) → i < length was → top_at new (slice_index was i) ≡ top_at old (slice_index was i)
    same_top i l =
        let n : ℕ = slice_index was i in
        let child : IsChild n = are_children i 0 l in
        let apart : IsOver r.ready n c → ⊥ = not_over_parent r.ready r.prepared.tree n c (r.prepared.keeps.parent n child.1 ∙ child.0) in
        top_kept r.ready new c (spliced_in r.ready new c 1 last r.row r.prepared.tree r.put) r.tree r.put.len n (omega (arith, child.1, r.prepared.keeps.len)) apart
        ∙ top_stays old r.ready tree r.prepared.keeps r.prepared.tree n child.1

    pub they_come : ElementsCome old new c order
    they_come = record { elements = now_are; same = same_top }

  pub come_by : Rearranged old new c h order → ElementsCome old new c order
  come_by made =
      elim (cases_Bool (is_unchanged order)) [
        | inl e ↦ subst (λ (ns : List Node). ElementsCome old ns c order) (sym (made.was (not_moved (has_brackets old c) (is_unchanged order) e))) (stays_as e)
        | inr e ↦ they_come (made.is (all_move (has_brackets old c) (is_unchanged order) whole e)) e
      ]

pub comes_in_order : (old new : List Node) (c : ℕ) (h : Headers) (order : List ℕ) → ComesInOrder old new c h order
comes_in_order old new c h order tree there whole perm made = come_by old new c h order tree there whole perm made
