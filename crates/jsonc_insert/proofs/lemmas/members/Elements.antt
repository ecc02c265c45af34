-- A row on several lines has the elements that it had.
use Rattle.std.proofs.Common.{◌≡◌, ◌<◌, ◌≤◌, ◌+◌, ◌-◌, inl, inr, ℕ, suc, Bool, true, false, cond, List, [], ◌∷◌, ◌++◌, All, length, filter, map, take, drop, slice_index, refl, sym, ap, subst, ◌∙◌, arith, append-nil, length-drop, get_or-drop}
use Rattle.std.specs.List.{suffix_len}
use Rattle.std.proofs.lemmas.Bool.{cases_Bool}
use Rattle.std.proofs.lemmas.List.{drop_all, drop_more, take-append-drop}
use Rattle.std.proofs.lemmas.List.Elements.{All-append, All-cons, All-drop, All-from_get_or, All-head, All-tail, All-take, filter-append}
use Rattle.jsonc_tree.specs.Building.{Keeps}
use Rattle.jsonc_tree.specs.Content as content
use Rattle.jsonc_tree.specs.Content.{Content}
use Rattle.jsonc_tree.specs.Tree.{Node, content_at, children_at, IsTree}
use Rattle.jsonc_layout.specs.nodes.Kinds.{is_element, is_element_at, is_whitespace, is_whitespace_at, is_token, is_comma_at}
use Rattle.jsonc_edit.specs.multiline.Slots.{Slot, stays, comes, AreFilled, no_more, stayed, came}
use Rattle.jsonc_edit.specs.multiline.Lines.{Lines, between, indent_if_any, last_line, lines_for, on_lines, spread_row, without_back}
use Rattle.jsonc_edit.specs.multiline.Multiline.{has_line_end}
use Rattle.jsonc_edit.specs.multiline.Plans.{begins_behind, child_slots}
use Rattle.jsonc_edit.proofs.lemmas.multiline.RowByNode.{both_woven, woven}
use Rattle.jsonc_edit.proofs.Lists.{suffix_passes}
use Rattle.jsonc_insert.specs.Planned.{elements, has_brackets}
use Rattle.jsonc_insert.proofs.BeforeTheBracket.{token_no_element}
use Rattle.jsonc_insert.proofs.TrimmedRows.{front_token, has_two}
use Rattle.jsonc_insert.specs.members.Opened.{enclosed, opened, IsOpened}
use Rattle.jsonc_insert.proofs.lemmas.members.Opening.{back_token}

-- the children that stay in a row
abbrev pub staying : List Slot → List ℕ
staying [] = []
staying (stays n ∷ rest) = n ∷ staying rest
staying (comes content ∷ rest) = staying rest

pub staying_append : (xs ys : List Slot) → staying (xs ++ ys) ≡ staying xs ++ staying ys
staying_append [] ys = refl
staying_append (stays n ∷ xs) ys = ap (λ l. n ∷ l) (staying_append xs ys)
staying_append (comes content ∷ xs) ys = staying_append xs ys

pub staying_all : (xs : List ℕ) → staying (map stays xs) ≡ xs
staying_all [] = refl
staying_all (x ∷ xs) = ap (λ l. x ∷ l) (staying_all xs)

-- no element comes into it
abbrev pub NoneComes : List Slot → Type 0
NoneComes [] = Unit {0}
NoneComes (stays n ∷ rest) = NoneComes rest
NoneComes (comes content ∷ rest) = (is_element content ≡ false) × NoneComes rest

none_append : (xs ys : List Slot) → NoneComes xs → NoneComes ys → NoneComes (xs ++ ys)
none_append [] ys f g = g
none_append (stays n ∷ xs) ys f g = none_append xs ys f g
none_append (comes content ∷ xs) ys f g = (f.0, none_append xs ys f.1 g)

none_stay : (xs : List ℕ) → NoneComes (map stays xs)
none_stay [] = tt
none_stay (x ∷ xs) = none_stay xs

-- nodes that fill such places have the elements of those that stay
module _ (old lined : List Node) (keeps : Keeps (length old) old lined) where
  pub filled_elements : (slots : List Slot) (row : List ℕ) → AreFilled old lined slots row → NoneComes slots → All (λ n. n < length old) (staying slots) → elements lined row ≡ elements old (staying slots)
  filled_elements _ _ no_more none there = refl
  filled_elements _ _ (stayed {n = n} {slots = slots} {row = row} rest) none there =
      ap (λ b. cond b (n ∷ elements lined row) (elements lined row)) (ap is_element (keeps.content n (All-head (λ m. m < length old) n (staying slots) there)))
      ∙ ap (λ l. cond (is_element_at old n) (n ∷ l) l) (filled_elements slots row rest none (All-tail (λ m. m < length old) n (staying slots) there))
  filled_elements _ _ (came {n = n} {content = content} {slots = slots} {row = row} later here is alone rest) none there =
      ap (λ b. cond b (n ∷ elements lined row) (elements lined row)) (ap is_element is ∙ none.0) ∙ filled_elements slots row rest none.1 there

blank_no_element : (c : Content) → is_whitespace c ≡ true → is_element c ≡ false
blank_no_element (content.whitespace s) e = refl
blank_no_element c e = cc

none_of : (p : ℕ → Bool) (xs : List ℕ) → ((k : ℕ) → k < length xs → p (slice_index xs k) ≡ false) → filter p xs ≡ []
none_of p [] h = refl
none_of p (x ∷ xs) h = ap (λ b. cond b (x ∷ filter p xs) (filter p xs)) (h 0 (omega arith)) ∙ none_of p xs (λ k l. h (suc k) (omega (arith, l)))

module _ (lines : Lines) (ns : List Node) where
  abbrev E : ℕ → Bool
  E n = is_element_at ns n

  child_elements : (n : ℕ) (row : List ℕ) (rest : List Slot) (begins blank : Bool) → is_whitespace_at ns n ≡ blank → filter E (staying rest) ≡ filter E row → filter E (staying (child_slots lines begins blank n ++ rest)) ≡ filter E (n ∷ row)
  child_elements n row rest true true e same = same ∙ sym (ap (λ b. cond b (n ∷ filter E row) (filter E row)) (blank_no_element (content_at ns n) e))
  child_elements n row rest true false e same = ap (λ l. cond (E n) (n ∷ l) l) same
  child_elements n row rest false blank e same = ap (λ l. cond (E n) (n ∷ l) l) same

  child_none : (n : ℕ) (rest : List Slot) (begins blank : Bool) → NoneComes rest → NoneComes (child_slots lines begins blank n ++ rest)
  child_none n rest true true none = none
  child_none n rest true false none = (refl, (refl, none))
  child_none n rest false blank none = none

  child_all : (P : ℕ → Type 0) (n : ℕ) (rest : List Slot) (begins blank : Bool) → P n → All P (staying rest) → All P (staying (child_slots lines begins blank n ++ rest))
  child_all P n rest true true one all = all
  child_all P n rest true false one all = All-cons P n (staying rest) one all
  child_all P n rest false blank one all = All-cons P n (staying rest) one all

  woven_elements : (begins : Bool) (row : List ℕ) → filter E (staying (woven lines ns begins row)) ≡ filter E row
  woven_elements begins [] = refl
  woven_elements begins (n ∷ row) =
      let next = begins_behind begins (is_whitespace_at ns n) (is_comma_at ns n) in
      child_elements n row (woven lines ns next row) begins (is_whitespace_at ns n) refl (woven_elements next row)

  woven_none : (begins : Bool) (row : List ℕ) → NoneComes (woven lines ns begins row)
  woven_none begins [] = tt
  woven_none begins (n ∷ row) =
      let next = begins_behind begins (is_whitespace_at ns n) (is_comma_at ns n) in
      child_none n (woven lines ns next row) begins (is_whitespace_at ns n) (woven_none next row)

  woven_all : (P : ℕ → Type 0) (begins : Bool) (row : List ℕ) → All P row → All P (staying (woven lines ns begins row))
  woven_all P begins [] all = all
  woven_all P begins (n ∷ row) all =
      let next = begins_behind begins (is_whitespace_at ns n) (is_comma_at ns n) in
      child_all P n (woven lines ns next row) begins (is_whitespace_at ns n) (All-head P n row all) (woven_all P next row (All-tail P n row all))

  last_stays : staying (last_line lines) ≡ []
  last_stays = by lines.outer
    where
      by : (s : List ℕ) → staying (map comes (indent_if_any s)) ≡ []
      by [] = refl
      by (c ∷ rest) = refl

  last_none : NoneComes (last_line lines)
  last_none = (refl, by lines.outer)
    where
      by : (s : List ℕ) → NoneComes (map comes (indent_if_any s))
      by [] = tt
      by (c ∷ rest) = (refl, tt)

  are_woven : (row : List ℕ) → on_lines lines ns row ≡ woven lines ns true (without_back ns row) ++ last_line lines
  are_woven row = ap (λ l. l ++ last_line lines) (both_woven lines ns (without_back ns row)).0

  pub lines_stay : (row : List ℕ) → staying (on_lines lines ns row) ≡ staying (woven lines ns true (without_back ns row))
  lines_stay row =
      ap staying (are_woven row) ∙ staying_append (woven lines ns true (without_back ns row)) (last_line lines) ∙ ap (λ l. staying (woven lines ns true (without_back ns row)) ++ l) last_stays
      ∙ append-nil (staying (woven lines ns true (without_back ns row)))

  pub lines_none : (row : List ℕ) → NoneComes (on_lines lines ns row)
  lines_none row = subst NoneComes (sym (are_woven row)) (none_append (woven lines ns true (without_back ns row)) (last_line lines) (woven_none true (without_back ns row)) last_none)

  pub lines_all : (P : ℕ → Type 0) (row : List ℕ) → All P row → All P (staying (on_lines lines ns row))
  lines_all P row all = subst (All P) (sym (lines_stay row)) (woven_all P true (without_back ns row) (All-take P (length row - suffix_len (is_whitespace_at ns) row) row all))

  back_elements : (row : List ℕ) → filter E (without_back ns row) ≡ filter E row
  back_elements row =
      let k : ℕ = length row - suffix_len (is_whitespace_at ns) row in
      let out : filter E (drop k row) ≡ [] =
      none_of E (drop k row)
      (λ j h.
      let there : k + j < length row = omega (arith, h, length-drop k row) in
      ap E (get_or-drop k row j 0) ∙ blank_no_element (content_at ns (slice_index row (k + j))) (suffix_passes (is_whitespace_at ns) row (k + j) (omega arith) there)) in
      sym (append-nil (filter E (take k row))) ∙ ap (λ l. filter E (take k row) ++ l) (sym out) ∙ sym (filter-append E (take k row) (drop k row)) ∙ ap (filter E) (take-append-drop k row)

  pub lines_elements : (row : List ℕ) → filter E (staying (on_lines lines ns row)) ≡ filter E row
  lines_elements row = ap (filter E) (lines_stay row) ∙ woven_elements true (without_back ns row) ∙ back_elements row

-- a row, and what stands between its brackets
module _ (ns : List Node) (row : List ℕ) (brackets : has_brackets ns row ≡ true) where
  abbrev front : ℕ
  front = slice_index row 0

  abbrev back : ℕ
  back = slice_index row (length row - 1)

  two : 2 ≤ length row
  two = has_two ns row brackets

  no_element : (n : ℕ) → is_token (content_at ns n) ≡ true → is_element_at ns n ≡ false
  no_element n e = elim (cases_Bool (is_element_at ns n)) [ inl was ↦ absurd (token_no_element (content_at ns n) e was) | inr other ↦ other ]

  parts : (inner : List ℕ) → elements ns (front ∷ (inner ++ back ∷ [])) ≡ elements ns inner
  parts inner =
      ap (λ b. cond b (front ∷ elements ns (inner ++ back ∷ [])) (elements ns (inner ++ back ∷ []))) (no_element front (front_token ns row brackets))
      ∙ filter-append (is_element_at ns) inner (back ∷ [])
      ∙ ap (λ b. elements ns inner ++ cond b (back ∷ []) []) (no_element back (back_token ns row brackets))
      ∙ append-nil (elements ns inner)

  pub whole_row : row ≡ front ∷ (between row ++ back ∷ [])
  whole_row =
      let one = drop_more row 0 0 (omega (arith, two)) in
      let inner : List ℕ = drop 1 row in
      let count : ℕ = length row - 1 - 1 in
      let last : drop count inner ≡ back ∷ [] =
      drop_more inner count 0 (omega (arith, two, length-drop 1 row)) ∙ ap (λ l. slice_index inner count ∷ l) (drop_all (count + 1) inner (omega (arith, two, length-drop 1 row)))
      ∙ ap (λ n. n ∷ []) (get_or-drop 1 row count 0 ∙ ap (slice_index row) (omega (arith, two))) in
      one ∙ ap (λ l. front ∷ l) (sym (take-append-drop count inner) ∙ ap (λ l. take count inner ++ l) last)

  pub between_elements : elements ns (between row) ≡ elements ns row
  between_elements = sym (parts (between row)) ∙ sym (ap (elements ns) whole_row)

  pub enclosed_stay : (slots : List Slot) → staying (enclosed row slots) ≡ front ∷ (staying slots ++ back ∷ [])
  enclosed_stay slots = ap (λ l. front ∷ l) (staying_append slots (stays back ∷ []))

  pub enclosed_elements : (slots : List Slot) → elements ns (staying (enclosed row slots)) ≡ elements ns (staying slots)
  enclosed_elements slots = ap (elements ns) (enclosed_stay slots) ∙ parts (staying slots)

module _ (old : List Node) (tree : IsTree old) (c : ℕ) (brackets : has_brackets old (children_at old c) ≡ true) where
  abbrev kids : List ℕ
  kids = children_at old c

  abbrev There : ℕ → Type 0
  There n = n < length old

  kids_there : All There kids
  kids_there = All-from_get_or There kids 0 (λ k h. tree.in_tree c k h)

  between_there : All There (between kids)
  between_there = All-take There (length kids - 1 - 1) (drop 1 kids) (All-drop There 1 kids kids_there)

  abbrev spread : List Slot
  spread = spread_row (lines_for old c) old c

  spread_there : All There (staying (enclosed kids spread))
  spread_there =
      let two = has_two old kids brackets in
      subst (All There) (sym (enclosed_stay old kids brackets spread))
      (All-cons There (slice_index kids 0) (staying spread ++ slice_index kids (length kids - 1) ∷ []) (tree.in_tree c 0 (omega (arith, two)))
      (All-append There (staying spread) (slice_index kids (length kids - 1) ∷ []) (lines_all (lines_for old c) old There (between kids) between_there)
      (All-cons There (slice_index kids (length kids - 1)) [] (tree.in_tree c (length kids - 1) (omega (arith, two))) (λ k d h. absurd (omega (arith, h))))))

  spread_none : NoneComes (enclosed kids spread)
  spread_none = none_append spread (stays (slice_index kids (length kids - 1)) ∷ []) (lines_none (lines_for old c) old (between kids)) tt

  abbrev Whole : List Slot → Type 0
  Whole slots = NoneComes slots × All There (staying slots) × (elements old (staying slots) ≡ elements old kids)

  opened_whole : Whole (opened old c)
  opened_whole = by (has_line_end old c)
    where
      by : (b : Bool) → Whole (cond b (map stays kids) (enclosed kids spread))
      by true = (none_stay kids, subst (All There) (sym (staying_all kids)) kids_there, ap (elements old) (staying_all kids))
      by false = (spread_none, spread_there, enclosed_elements old kids brackets spread ∙ lines_elements (lines_for old c) old (between kids) ∙ between_elements old kids brackets)

  -- the row on several lines has the elements that it had
  pub opened_elements : (lined : List Node) (row : List ℕ) → IsOpened old lined c row → elements lined row ≡ elements old kids
  opened_elements lined row o = filled_elements old lined o.prepared.keeps (opened old c) row o.filled opened_whole.0 opened_whole.1 ∙ opened_whole.2
