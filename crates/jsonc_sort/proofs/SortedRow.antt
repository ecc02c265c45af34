-- A sorted row, once it is planned, may take its place.
use Rattle.std.proofs.Common.{◌≡◌, ◌≢◌, ℕ, zero, suc, ◌+◌, ◌-◌, ◌<◌, ◌≤◌, ◌==◌, Bool, cond, true, false, not, ◌&&◌, inl, inr, List, [], ◌∷◌, ◌++◌, length, map, filter, take, drop, reverse, slice_index, Some, IsTrue, refl, sym, ap, subst, ◌∙◌, arith, length-take, length-drop, get_or-take, get_or-drop, append-nil}
use Rattle.std.specs.Prelude.{IsPermutation}
use Rattle.std.specs.List.{range_with_len}
use Rattle.std.proofs.lemmas.Bool.{cases_eq, cases_lt, eq-eqb, ne_eqb}
use Rattle.std.proofs.lemmas.List.{drop_more, drop_all, length-map, reverse-append, take-append-drop}
use Rattle.std.proofs.lemmas.List.Elements.{All-from_get_or, filter-append}
use Rattle.jsonc_tree.specs.Changes.{EachOnce, Splices}
use Rattle.jsonc_tree.specs.Content.{Content, newline}
use Rattle.jsonc_tree.specs.Siblings.{first}
use Rattle.jsonc_tree.specs.Tree.{Node, content_at, parent_at, children_at, place_at, IsTree}
use Rattle.jsonc_tree.specs.declared.node.CstNewlineKind.{CstNewlineKind}
use Rattle.jsonc_layout.specs.nodes.Kinds.{is_element, is_element_at, is_token}
use Rattle.jsonc_layout.specs.nodes.Siblings.{elements_at}
use Rattle.jsonc_sound.specs.Lines.{is_line_comment}
use Rattle.jsonc_layout.specs.lines.Breadth.{newline_kind_at}
use Rattle.jsonc_edit.specs.remove.Removed.{has_brackets, has_two, is_token_at}
use Rattle.jsonc_edit.specs.multiline.Lines.{between}
use Rattle.jsonc_edit.specs.multiline.Plans.{IsFrom}
use Rattle.jsonc_edit.specs.multiline.Slots.{AreFilled, no_more, stayed, came}
use Rattle.jsonc_edit.proofs.lemmas.multiline.WholeRow.{takes_row, two_there}
use Rattle.jsonc_sort.specs.Slots.{Slot, comes, all_stay}
use Rattle.jsonc_sort.specs.Sorting.{Headers, entries, goes_on, is_unchanged, lines_ended, rearranged, row_end, slot_content, sorted}
use Rattle.jsonc_sort.specs.Places.{AreEntries, entry_of}
use Rattle.jsonc_sort.specs.Plans.{IsReady, RowPlanned, times}
use Rattle.jsonc_sort.specs.Rearranged.{IsOrderIn, PlansSort, Rearranged, moves, row_sorted}
use Rattle.jsonc_sort.specs.declared.places.Places.{Places}
use Rattle.jsonc_sort.proofs.Choices.{Each, all_each, choose}
use Rattle.jsonc_sort.proofs.Lines.{Held, rearranged_held}
use Rattle.jsonc_sort.proofs.ChildrenOnce.{own, sorted_most, total}
use Rattle.jsonc_sort.proofs.Times.{each_once, once_each, times_here, times_other}
use Rattle.jsonc_sort.proofs.Weights.{entry_count}

-- what holds of the children of a row holds of those that stay in the sorted one
pub lines_held : (at : ℕ → Content) (P : ℕ → Type 0) (k : CstNewlineKind) (slots : List Slot) → Each (Held at P) slots → Each (Held at P) (lines_ended at k slots)
lines_held at P k [] h = tt
lines_held at P k (s ∷ slots) h =
    choose (Each (Held at P)) (is_line_comment (slot_content at s) && goes_on at slots) (s ∷ comes (newline k) ∷ lines_ended at k slots) (s ∷ lines_ended at k slots)
    (h.0, (tt, lines_held at P k slots h.1)) (h.0, lines_held at P k slots h.1)

-- how often a number stays
abbrev pub is_it : ℕ → ℕ → ℕ
is_it n m = cond (n == m) 1 0

pub it_here : (n m : ℕ) → n ≡ m → is_it n m ≡ 1
it_here n m e = rw (eq-eqb n m e) refl

pub it_other : (n m : ℕ) → n ≢ m → is_it n m ≡ 0
it_other n m e = rw (ne_eqb n m e) refl

pub own_times : (at : ℕ → Content) (n : ℕ) (row : List ℕ) → own at (is_it n) row ≡ times n row
own_times at n [] = refl
own_times at n (m ∷ row) =
    elim (cases_eq n m) [
      | inl e ↦ omega (arith, own_times at n row, it_here n m e, times_here n m row e)
      | inr e ↦ omega (arith, own_times at n row, it_other n m e, times_other n m row e)
    ]

pub filled_times : (old now : List Node) (at : ℕ → Content) (n : ℕ) → n < length old → (slots : List Slot) (row : List ℕ) → AreFilled old now slots row → times n row ≡ total at (is_it n) slots
filled_times old now at n h _ _ no_more = refl
filled_times old now at n h _ _ (stayed {n = m} {slots = slots} {row = row} rest) =
    elim (cases_eq n m) [
      | inl e ↦ omega (arith, filled_times old now at n h slots row rest, it_here n m e, times_here n m row e)
      | inr e ↦ omega (arith, filled_times old now at n h slots row rest, it_other n m e, times_other n m row e)
    ]
filled_times old now at n h _ _ (came {n = m} {slots = slots} {row = row} later there is alone rest) =
    omega (arith, filled_times old now at n h slots row rest, times_other n m row (λ e. omega (arith, e, h, later)))

-- a list with two members or more, by its ends
pub parted : (xs : List ℕ) → 2 ≤ length xs → xs ≡ slice_index xs 0 ∷ (between xs ++ slice_index xs (length xs - 1) ∷ [])
parted xs h =
    let k : ℕ = length xs - 1 - 1 in
    let rest : drop k (drop 1 xs) ≡ slice_index (drop 1 xs) k ∷ [] =
    drop_more (drop 1 xs) k 0 (omega (arith, h, length-drop 1 xs)) ∙ ap (λ l. slice_index (drop 1 xs) k ∷ l) (drop_all (k + 1) (drop 1 xs) (omega (arith, h, length-drop 1 xs))) in
    let last : slice_index (drop 1 xs) k ≡ slice_index xs (length xs - 1) = get_or-drop 1 xs k 0 ∙ ap (slice_index xs) (omega (arith, h)) in
    drop_more xs 0 0 (omega (arith, h)) ∙ ap (λ l. slice_index xs 0 ∷ l) (sym (take-append-drop k (drop 1 xs)) ∙ ap (λ l. between xs ++ l) (rest ∙ ap (λ n. n ∷ []) last))

token_none : (c : Content) → is_token c ≡ true → is_element c ≡ false
token_none (Content.token k) e = refl
token_none c e = cc

module _ (ns : List Node) (x y : ℕ) (inner : List ℕ) where
  none_around : is_token (content_at ns x) ≡ true → is_token (content_at ns y) ≡ true → filter (is_element_at ns) (x ∷ (inner ++ y ∷ [])) ≡ filter (is_element_at ns) inner
  none_around e f =
      let first : is_element_at ns x ≡ false = token_none (content_at ns x) e in
      let last : is_element_at ns y ≡ false = token_none (content_at ns y) f in
      let one : filter (is_element_at ns) (y ∷ []) ≡ [] = ap (λ b. cond b (y ∷ []) []) last in
      ap (λ b. cond b (x ∷ filter (is_element_at ns) (inner ++ y ∷ [])) (filter (is_element_at ns) (inner ++ y ∷ []))) first
      ∙ filter-append (is_element_at ns) inner (y ∷ []) ∙ ap (λ l. filter (is_element_at ns) inner ++ l) one ∙ append-nil (filter (is_element_at ns) inner)

  ends_token : is_token_at ns (first (reverse (x ∷ (inner ++ y ∷ [])))) ≡ is_token (content_at ns y)
  ends_token = ap (λ l. is_token_at ns (first l)) (reverse-append (x ∷ inner) (y ∷ []))

and_three : (a b c : Bool) → (a && (b && c)) ≡ true → (b ≡ true) × (c ≡ true)
and_three true true c e = (refl, e)
and_three true false c e = cc
and_three false b c e = cc

-- the elements of c stand between its brackets
pub elements_between : (ns : List Node) (c : ℕ) → IsTrue (has_brackets ns c) → elements_at ns c ≡ filter (is_element_at ns) (between (children_at ns c))
elements_between ns c h =
    let kids : List ℕ = children_at ns c in
    let x : ℕ = slice_index kids 0 in
    let y : ℕ = slice_index kids (length kids - 1) in
    let inner : List ℕ = between kids in
    let parts : kids ≡ x ∷ (inner ++ y ∷ []) = parted kids (two_there ns c h) in
    let both = and_three (has_two kids) (is_token_at ns (first kids)) (is_token_at ns (first (reverse kids))) h in
    let one : is_token (content_at ns x) ≡ true = sym (ap (λ l. is_token_at ns (first l)) parts) ∙ both.0 in
    let two : is_token (content_at ns y) ≡ true = sym (ends_token ns x y inner) ∙ sym (ap (λ l. is_token_at ns (first (reverse l))) parts) ∙ both.1 in
    ap (filter (is_element_at ns)) parts ∙ none_around ns x y inner one two

module _ (old : List Node) (c : ℕ) (tree : IsTree old) (there : c < length old) where
  abbrev kids : List ℕ
  kids = children_at old c

  abbrev inner : List ℕ
  inner = between kids

  abbrev at : ℕ → Content
  at = content_at old

  abbrev last : ℕ
  last = length kids - 1

  abbrev IsInner : ℕ → Type 0
  IsInner n = (parent_at old n ≡ Some c) × (0 < place_at old n) × (place_at old n < last)

  inner_are : Each IsInner inner
  inner_are = all_each IsInner inner (All-from_get_or IsInner inner 0 (λ k h. is k (omega (arith, h, length-take (length kids - 1 - 1) (drop 1 kids), length-drop 1 kids))))
    where
      is : (k : ℕ) → k + 2 < length kids → IsInner (slice_index inner k)
      is k h =
          let same : slice_index inner k ≡ slice_index kids (1 + k) = get_or-take (length kids - 1 - 1) (drop 1 kids) k 0 (omega (arith, h)) ∙ get_or-drop 1 kids k 0 in
          let place : place_at old (slice_index inner k) ≡ 1 + k = ap (place_at old) same ∙ tree.placed c (1 + k) (omega (arith, h)) in
          (ap (parent_at old) same ∙ tree.named c (1 + k) (omega (arith, h)), omega (arith, place), omega (arith, place, h))

  kids_once : EachOnce kids
  kids_once a b la lb e = sym (tree.placed c a la) ∙ ap (place_at old) e ∙ tree.placed c b lb

  inner_once : (n : ℕ) → times n inner ≤ 1
  inner_once n = each_once inner once n
    where
      low : (k : ℕ) → k < length inner → slice_index inner k ≡ slice_index kids (1 + k)
      low k h = get_or-take (length kids - 1 - 1) (drop 1 kids) k 0 (omega (arith, h, length-take (length kids - 1 - 1) (drop 1 kids))) ∙ get_or-drop 1 kids k 0

      within : (k : ℕ) → k < length inner → 1 + k < length kids
      within k h = omega (arith, h, length-take (length kids - 1 - 1) (drop 1 kids), length-drop 1 kids)

      once : EachOnce inner
      once a b la lb e = let same : 1 + a ≡ 1 + b = kids_once (1 + a) (1 + b) (within a la) (within b lb) (sym (low a la) ∙ e ∙ low b lb) in omega (arith, same)

  module _ (now : List Node) (h : Headers) (order : List ℕ) (kind : CstNewlineKind) (perm : IsPermutation (range_with_len 0 (length (entries at h inner))) order) where
    abbrev moved : List Slot
    moved = lines_ended at kind (rearranged at (entries at h inner) order ++ all_stay (row_end at inner))

    moved_inner : Each (Held at IsInner) moved
    moved_inner = lines_held at IsInner kind (rearranged at (entries at h inner) order ++ all_stay (row_end at inner)) (rearranged_held at IsInner h inner order inner_are perm)

    filled_from : (slots : List Slot) (row : List ℕ) → AreFilled old now slots row → Each (Held at IsInner) slots → (k : ℕ) → k < length row → IsFrom old now c last (slice_index row k)
    filled_from _ _ no_more e k l = absurd (omega arith)
    filled_from _ _ (stayed {slots = slots} {row = row} rest) e zero l = inl e.0
    filled_from _ _ (stayed {slots = slots} {row = row} rest) e (suc k) l = filled_from slots row rest e.1 k (omega arith)
    filled_from _ _ (came {slots = slots} {row = row} later near is alone rest) e zero l = inr (later, near, alone)
    filled_from _ _ (came {slots = slots} {row = row} later near is alone rest) e (suc k) l = filled_from slots row rest e.1 k (omega arith)

    sorted_is : is_unchanged order ≡ false → sorted at kind h inner order ≡ moved
    sorted_is e = rw e refl

    row_times : is_unchanged order ≡ false → (row : List ℕ) → IsReady old now moved row → (n : ℕ) → times n row ≤ 1
    row_times e row r n =
        elim (cases_lt n (length old)) [
          | inl low ↦ (
              let same : times n row ≡ total at (is_it n) (sorted at kind h inner order) = filled_times old now at n low moved row r.filled ∙ ap (total at (is_it n)) (sym (sorted_is e)) in
              omega (arith, same, sorted_most at (is_it n) kind h inner order perm, own_times at n inner, inner_once n)
              )
          | inr high ↦ r.made.once n high
        ]

    pub sort_planned : is_unchanged order ≡ false → kind ≡ newline_kind_at old c → (row : List ℕ) → IsReady old now moved row → PlansSort old now c h order row
    sort_planned e f row r = record {
      tree = r.tree;
      keeps = r.keeps;
      filled = subst (λ k. AreFilled old now (sorted at k h inner order) row) f (subst (λ l. AreFilled old now l row) (sym (sorted_is e)) r.filled);
      from = filled_from moved row r.filled moved_inner;
      once = once_each row (row_times e row r);
    }

-- the planned row by its places is the row by its entries
module _ (old now : List Node) (c : ℕ) (tree : IsTree old) (there : c < length old) (h : Headers) (order xs : List ℕ) (places : List Places) (same : xs ≡ between (children_at old c)) (read : AreEntries (content_at old) h xs places) where
  pub order_of : IsTrue (has_brackets old c) → IsOrderIn old c order → IsPermutation (range_with_len 0 (length places)) order
  order_of b p =
      let count : length places ≡ length (elements_at old c) =
      sym (length-map places (entry_of xs)) ∙ ap length read.are ∙ entry_count (content_at old) h xs ∙ ap (λ l. length (filter (is_element_at old) l)) same ∙ sym (ap length (elements_between old c b)) in
      subst (λ n. IsPermutation (range_with_len 0 n) order) (sym count) p

  pub sort_is_planned : IsTrue (has_brackets old c) → is_unchanged order ≡ false → IsOrderIn old c order → (kind : CstNewlineKind) → kind ≡ newline_kind_at old c → (row : List ℕ) → RowPlanned old now kind xs places order row → PlansSort old now c h order row
  sort_is_planned b e p kind f row r =
      let at : ℕ → Content = content_at old in
      let inner : List ℕ = between (children_at old c) in
      let perm : IsPermutation (range_with_len 0 (length (entries at h inner))) order =
      subst (λ n. IsPermutation (range_with_len 0 n) order) (ap length (elements_between old c b) ∙ sym (entry_count at h inner)) p in
      let by_entries : IsReady old now (lines_ended at kind (rearranged at (entries at h xs) order ++ all_stay (row_end at xs))) row =
      subst (λ es. IsReady old now (lines_ended at kind (rearranged at es order ++ all_stay (row_end at xs))) row) read.are
      (subst (λ l. IsReady old now (lines_ended at kind (rearranged at (map (entry_of xs) places) order ++ all_stay l)) row) read.behind r) in
      sort_planned old c tree there now h order kind perm e f row (subst (λ l. IsReady old now (lines_ended at kind (rearranged at (entries at h l) order ++ all_stay (row_end at l))) row) same by_entries)

-- the children that are read
pub between_read : (kids xs : List ℕ) (count : ℕ) → xs ≡ kids → count ≡ length kids → take (count - 1 - 1) (drop 1 xs) ≡ between kids
between_read kids xs count e f = ap (λ (l : List ℕ). take (count - 1 - 1) (drop 1 l)) e ∙ ap (λ k. take (k - 1 - 1) (drop 1 kids)) f

-- what moves
moving : (a b : Bool) → (a && not b) ≡ true → (a ≡ true) × (b ≡ false)
moving true true e = cc
moving true false e = (refl, refl)
moving false b e = cc

pub has_both : (old : List Node) (c : ℕ) (order : List ℕ) → IsTrue (moves old c order) → IsTrue (has_brackets old c) × (is_unchanged order ≡ false)
has_both old c order h = moving (has_brackets old c) (is_unchanged order) h

pub all_moves : (old now new : List Node) (c : ℕ) (h : Headers) (order row : List ℕ) → IsTree old → c < length old → PlansSort old now c h order row → IsTree now → IsTree new
    → (count : ℕ) → count ≡ length (children_at now c) → (xs : List ℕ) → xs ≡ row → Splices now new c 1 (count - 1) xs → moves old c order ≡ true → Rearranged old new c h order
all_moves old now new c h order row tree there p after done count counted xs e put f = record {
  was = λ g. absurd (let wrong : true ≡ false = sym f ∙ g in cc);
  is = λ g. takes_row old now new c (row_sorted old c h order) row tree there p after done
      (subst (λ k. Splices now new c 1 (k - 1) row) (counted ∙ ap length (p.keeps.children c there)) (subst (λ l. Splices now new c 1 (count - 1) l) e put));
}
