-- Blank lines that leave the row of an array.
use Rattle.std.proofs.Common.{◌≡◌, ◌∙◌, ◌<◌, ◌≤◌, ◌+◌, ◌-◌, ◌⊎◌, inl, inr, ℕ, suc, true, false, List, [], ◌∷◌, ◌++◌, length, map, reverse, take, drop, slice_index, slice_range, nat_lt, refl, sym, ap, subst, arith, append_assoc, length-append, length-drop, length-take}
use Rattle.std.specs.List.{prefix_len}
use Rattle.std.proofs.lemmas.Bool.{cases_Bool, ltb-true}
use Rattle.std.proofs.lemmas.List.{drop-append-le, drop_more, get_or-drop, get_or-reverse, get_or-take, get_or_append_left, length-reverse, take-append-drop, take-append-le, take_at, take_more}
use Rattle.std.proofs.lemmas.List.Edits.{get_or-between, length-between, split_between}
use Rattle.std.proofs.lemmas.List.Elements.{All-from_get_or}
use Rattle.std.proofs.lemmas.List.Folds.{length-prefix_len}
use Rattle.std.proofs.lemmas.List.Sums.{prefix_len_stops}
use Rattle.jsonc_tree.specs.Content.{newline}
use Rattle.jsonc_tree.specs.OrderedTree.{OrderedTree, none, more, followed_by}
use Rattle.jsonc_tree.specs.Tree.{Node, content_at, IsTree}
use Rattle.jsonc_layout.specs.nodes.Kinds.{is_newline_at, is_whitespace_at, is_blank_at}
use Rattle.jsonc_sound.specs.TriviaChanges.{leaves_then}
use Rattle.jsonc_insert.specs.Trimmed.{blanks, first_gone, inside, last_blanks, last_gone, last_gone_from, last_spaces, spaces, trimmed, without}
use Rattle.jsonc_insert.proofs.TrimmedRows.{back_blank, blanks_within, first_high, first_within, front_blank, last_behind, last_high, last_low, shorter_at, runs_apart}
use Rattle.jsonc_edit.proofs.LeafKinds.{newline_is}
use Rattle.jsonc_edit.proofs.Standing.{standing, standing_then}
use Rattle.jsonc_insert.specs.elements.Coming.{FirstLinesLeave, none_first, leave_first, LastLinesLeave, none_last, leave_last, BlankLinesLeave}
use Rattle.jsonc_insert.proofs.lemmas.elements.RowsOfTrees.{AllAre, blank_line, blanks_alone, blanks_are, blanks_row, line_first}

-- a row without a stretch inside its ends
strip : (x y : ℕ) (inner : List ℕ) (f t : ℕ) → 1 ≤ f → f ≤ t → t ≤ 1 + length inner → take f (x ∷ (inner ++ y ∷ [])) ++ drop t (x ∷ (inner ++ y ∷ [])) ≡ x ∷ ((take (f - 1) inner ++ drop (t - 1) inner) ++ y ∷ [])
strip x y inner f t low order high =
    let row : List ℕ = x ∷ (inner ++ y ∷ []) in
    let e : f ≡ suc (f - 1) = omega (arith, low) in
    let g : t ≡ suc (t - 1) = omega (arith, low, order) in
    let front : take f row ≡ x ∷ take (f - 1) inner = ap (λ n. take n row) e ∙ ap (λ l. x ∷ l) (take-append-le (f - 1) inner (y ∷ []) (omega (arith, low, order, high))) in
    let back : drop t row ≡ drop (t - 1) inner ++ y ∷ [] = ap (λ n. drop n row) g ∙ drop-append-le (t - 1) inner (y ∷ []) (omega (arith, low, order, high)) in
    ap (λ l. l ++ drop t row) front ∙ ap (λ l. (x ∷ take (f - 1) inner) ++ l) back ∙ ap (λ l. x ∷ l) (sym (append_assoc (take (f - 1) inner) (drop (t - 1) inner) (y ∷ [])))

module _ (ns : List Node) (tree : IsTree ns) where
  -- a stretch that stands behind the end of a line, with blanks alone before that
  first_tree : (row : List ℕ) (f t : ℕ) → f ≤ t → t ≤ length row → ((j : ℕ) → j < t → is_blank_at ns (slice_index row j) ≡ true) → (f ≡ t) ⊎ ((1 ≤ f) × (is_newline_at ns (slice_index row (f - 1)) ≡ true))
      → FirstLinesLeave (standing ns row) (standing ns (take f row ++ drop t row))
  first_tree row f t order high blank (inl e) = subst (λ l. FirstLinesLeave (standing ns row) (standing ns l)) (sym (ap (λ k. take f row ++ drop k row) (sym e) ∙ take-append-drop f row)) none_first
  first_tree row f t order high blank (inr (some, nl)) =
      let g : ℕ = f - 1 in
      let n : ℕ = slice_index row g in
      let gone : List ℕ = slice_range row f t in
      let rest : List ℕ = drop t row in
      let front : take f row ≡ take g row ++ n ∷ [] = ap (λ k. take k row) (let e : f ≡ g + 1 = omega (arith, some) in e) ∙ take_more row g 0 (omega (arith, some, order, high)) in
      let line = newline_is (content_at ns n) nl in
      let spaces_blank : AllAre (is_blank_at ns) (take g row) = All-from_get_or (λ m. is_blank_at ns m ≡ true) (take g row) 0 (λ k h. ap (is_blank_at ns) (get_or-take g row k 0 (omega (arith, h, length-take g row))) ∙ blank k (omega (arith, h, length-take g row, some, order))) in
      let gone_blank : AllAre (is_blank_at ns) gone =
      All-from_get_or (λ m. is_blank_at ns m ≡ true) gone 0
      (λ k h. let l = length-between row f t high in ap (is_blank_at ns) (get_or-between row f t k 0 (omega (arith, h, l, order))) ∙ blank (f + k) (omega (arith, h, l, order))) in
      let was : standing ns row ≡ leaves_then (map (content_at ns) (take g row)) (more (newline line.0) none (leaves_then (map (content_at ns) gone) (standing ns rest))) =
      ap (standing ns) (split_between row f t order ∙ ap (λ l. l ++ (gone ++ rest)) front ∙ append_assoc (take g row) (n ∷ []) (gone ++ rest))
      ∙ blanks_row ns tree (take g row) (n ∷ (gone ++ rest)) spaces_blank
      ∙ ap (leaves_then (map (content_at ns) (take g row))) (line_first ns tree n (standing ns (gone ++ rest)) line.0 line.1 ∙ ap (more (newline line.0) none) (blanks_row ns tree gone rest gone_blank)) in
      let now : standing ns (take f row ++ rest) ≡ leaves_then (map (content_at ns) (take g row)) (more (newline line.0) none (standing ns rest)) =
      ap (standing ns) (ap (λ l. l ++ rest) front ∙ append_assoc (take g row) (n ∷ []) rest)
      ∙ blanks_row ns tree (take g row) (n ∷ rest) spaces_blank
      ∙ ap (leaves_then (map (content_at ns) (take g row))) (line_first ns tree n (standing ns rest) line.0 line.1) in
      subst (λ l. FirstLinesLeave l (standing ns (take f row ++ rest))) (sym was)
      (subst (FirstLinesLeave (leaves_then (map (content_at ns) (take g row)) (more (newline line.0) none (leaves_then (map (content_at ns) gone) (standing ns rest))))) (sym now)
      (leave_first (map (content_at ns) (take g row)) (map (content_at ns) gone) line.0 (standing ns rest) (blanks_are ns (take g row) spaces_blank) (blanks_are ns gone gone_blank)))

  -- one that stands before it, with blanks alone behind that
  last_tree : (row : List ℕ) (f t : ℕ) → f ≤ t → t ≤ length row → ((j : ℕ) → f ≤ j → j < length row → is_blank_at ns (slice_index row j) ≡ true) → (f ≡ t) ⊎ ((t < length row) × (is_newline_at ns (slice_index row t) ≡ true))
      → LastLinesLeave (standing ns row) (standing ns (take f row ++ drop t row))
  last_tree row f t order high blank (inl e) = subst (λ l. LastLinesLeave (standing ns row) (standing ns l)) (sym (ap (λ k. take f row ++ drop k row) (sym e) ∙ take-append-drop f row)) none_last
  last_tree row f t order high blank (inr (some, nl)) =
      let n : ℕ = slice_index row t in
      let gone : List ℕ = slice_range row f t in
      let rest : List ℕ = drop (t + 1) row in
      let line = newline_is (content_at ns n) nl in
      let behind : drop t row ≡ n ∷ rest = drop_more row t 0 some in
      let gone_blank : AllAre (is_blank_at ns) gone =
      All-from_get_or (λ m. is_blank_at ns m ≡ true) gone 0
      (λ k h. let l = length-between row f t high in ap (is_blank_at ns) (get_or-between row f t k 0 (omega (arith, h, l, order))) ∙ blank (f + k) (omega arith) (omega (arith, h, l, order, high))) in
      let rest_blank : AllAre (is_blank_at ns) rest =
      All-from_get_or (λ m. is_blank_at ns m ≡ true) rest 0 (λ k h. ap (is_blank_at ns) (get_or-drop (t + 1) row k 0) ∙ blank (t + 1 + k) (omega (arith, order)) (omega (arith, h, length-drop (t + 1) row))) in
      let back : OrderedTree = more (newline line.0) none (leaves_then (map (content_at ns) rest) none) in
      let line_tree : standing ns (n ∷ rest) ≡ back = line_first ns tree n (standing ns rest) line.0 line.1 ∙ ap (more (newline line.0) none) (blanks_alone ns tree rest rest_blank) in
      let was : standing ns row ≡ followed_by (standing ns (take f row)) (leaves_then (map (content_at ns) gone) back) =
      ap (standing ns) (split_between row f t order ∙ ap (λ l. take f row ++ (gone ++ l)) behind)
      ∙ standing_then ns (take f row) (gone ++ n ∷ rest)
      ∙ ap (followed_by (standing ns (take f row))) (blanks_row ns tree gone (n ∷ rest) gone_blank ∙ ap (leaves_then (map (content_at ns) gone)) line_tree) in
      let now : standing ns (take f row ++ drop t row) ≡ followed_by (standing ns (take f row)) back =
      ap (λ l. standing ns (take f row ++ l)) behind ∙ standing_then ns (take f row) (n ∷ rest) ∙ ap (followed_by (standing ns (take f row))) line_tree in
      subst (λ l. LastLinesLeave l (standing ns (take f row ++ drop t row))) (sym was)
      (subst (LastLinesLeave (followed_by (standing ns (take f row)) (leaves_then (map (content_at ns) gone) back))) (sym now)
      (leave_last (standing ns (take f row)) (map (content_at ns) gone) (map (content_at ns) rest) line.0 (blanks_are ns gone gone_blank) (blanks_are ns rest rest_blank)))

  module _ (x y : ℕ) (inner : List ℕ) where
    abbrev row : List ℕ
    row = x ∷ (inner ++ y ∷ [])

    long : length row ≡ length inner + 2
    long = omega (arith, length-append inner (y ∷ []))

    two : 2 ≤ length row
    two = omega (arith, long)

    inside_is : inside row ≡ inner
    inside_is = take_at inner (y ∷ []) (length row - 1 - 1) (omega (arith, long))

    -- the blanks at the front
    abbrev front : List ℕ
    front = slice_range (inside row) 0 (blanks ns (inside row))

    front_long : length front ≡ blanks ns (inside row)
    front_long = let l = length-between (inside row) 0 (blanks ns (inside row)) (blanks_within ns (inside row)) in omega (arith, l)

    abbrev FirstLine : ℕ → ℕ → Type 0
    FirstLine from to = (from ≡ to) ⊎ ((2 ≤ from) × (is_newline_at ns (slice_index row (from - 1)) ≡ true))

    first_line : FirstLine (first_gone ns row).from (first_gone ns row).to
    first_line = elim (cases_Bool (nat_lt (spaces ns front) (length front))) [ inl b ↦ rw b (by (ltb-true (spaces ns front) (length front) b)) | inr b ↦ rw b (inl refl) ]
      where
        by : spaces ns front < length front → (1 + spaces ns front + 1 ≡ 1 + length front - last_spaces ns front) ⊎ ((2 ≤ 1 + spaces ns front + 1) × (is_newline_at ns (slice_index row (1 + spaces ns front + 1 - 1)) ≡ true))
        by h =
            let k : ℕ = spaces ns front in
            let counted : k ≡ prefix_len (is_whitespace_at ns) front = length-prefix_len (is_whitespace_at ns) front in
            let stops : is_whitespace_at ns (slice_index front k) ≡ false = ap (λ i. is_whitespace_at ns (slice_index front i)) counted ∙ prefix_len_stops (is_whitespace_at ns) front 0 (omega (arith, h, counted)) in
            let within : 1 + k < 1 + blanks ns (inside row) = omega (arith, h, front_long) in
            let in_inner = blanks_within ns (inside row) in
            let inside_long : length (inside row) ≡ length inner = ap length inside_is in
            let same : slice_index front k ≡ slice_index row (1 + k) =
            get_or-between (inside row) 0 (blanks ns (inside row)) k 0 (omega (arith, within))
            ∙ ap (slice_index (inside row)) (let z : 0 + k ≡ k = omega arith in z)
            ∙ get_or-between row 1 (length row - 1) k 0 (omega (arith, within, in_inner, inside_long, long)) in
            let at : 1 + k + 1 - 1 ≡ 1 + k = omega arith in
            let blank : is_blank_at ns (slice_index row (1 + k)) ≡ true = front_blank ns row two (1 + k) (omega arith) within in
            inr (omega arith, ap (λ i. is_newline_at ns (slice_index row i)) at ∙ blank_line (content_at ns (slice_index row (1 + k))) blank (sym (ap (is_whitespace_at ns) same) ∙ stops))

    -- those at the end
    abbrev place : ℕ
    place = length row - 1 - last_blanks ns (inside row)

    abbrev back : List ℕ
    back = slice_range row place (length row - 1)

    back_long : length back ≡ length row - 1 - place
    back_long = length-between row place (length row - 1) (omega arith)

    abbrev LastLine : ℕ → ℕ → Type 0
    LastLine from to = (from ≡ to) ⊎ ((to < length row - 1) × (is_newline_at ns (slice_index row to) ≡ true))

    last_line : LastLine (last_gone ns row).from (last_gone ns row).to
    last_line = elim (cases_Bool (nat_lt (blanks ns (inside row)) (length (inside row)))) [ inl b ↦ rw b from_place | inr b ↦ rw b (inl refl) ]
      where
        by : spaces ns back < length back → (place + spaces ns back ≡ place + length back - last_spaces ns back - 1) ⊎ ((place + length back - last_spaces ns back - 1 < length row - 1) × (is_newline_at ns (slice_index row (place + length back - last_spaces ns back - 1)) ≡ true))
        by h =
            let z : ℕ = last_spaces ns back in
            let front_counted = length-prefix_len (is_whitespace_at ns) back in
            let counted : z ≡ prefix_len (is_whitespace_at ns) (reverse back) = length-prefix_len (is_whitespace_at ns) (reverse back) in
            let few : z < length back = (let s = runs_apart (is_whitespace_at ns) back (omega (arith, h, front_counted)) in omega (arith, s, counted)) in
            let there = length-reverse back in
            let stops : is_whitespace_at ns (slice_index (reverse back) z) ≡ false =
            ap (λ i. is_whitespace_at ns (slice_index (reverse back) i)) counted ∙ prefix_len_stops (is_whitespace_at ns) (reverse back) 0 (omega (arith, few, counted, there)) in
            let q : ℕ = place + length back - z - 1 in
            let at : place + (length back - 1 - z) ≡ q = omega (arith, few) in
            let inside_row : q < length row - 1 = omega (arith, few, back_long) in
            let same : slice_index (reverse back) z ≡ slice_index row q =
            get_or-reverse back z 0 few ∙ get_or-between row place (length row - 1) (length back - 1 - z) 0 (omega (arith, few, back_long)) ∙ ap (slice_index row) at in
            let blank : is_blank_at ns (slice_index row q) ≡ true = back_blank ns row two q (omega (arith, few)) inside_row in
            inr (inside_row, blank_line (content_at ns (slice_index row q)) blank (sym (ap (is_whitespace_at ns) same) ∙ stops))

        from_place : LastLine (last_gone_from ns row place).from (last_gone_from ns row place).to
        from_place = elim (cases_Bool (nat_lt (spaces ns back) (length back))) [ inl b ↦ rw b (by (ltb-true (spaces ns back) (length back) b)) | inr b ↦ rw b (inl refl) ]

    -- what is left between the brackets
    pub record Left : Type 0 where
      pub inner_left : List ℕ
      pub is : trimmed ns row ≡ x ∷ (inner_left ++ y ∷ [])
      pub leave : BlankLinesLeave (standing ns inner) (standing ns inner_left)

    pub left : Left
    left =
        let w = last_behind ns row two in
        let high = last_high ns row two in
        let lf : ℕ = (last_gone ns row).from - 1 in
        let lt : ℕ = (last_gone ns row).to - 1 in
        let shorter : List ℕ = take lf inner ++ drop lt inner in
        let first_is : without (last_gone ns row) row ≡ x ∷ (shorter ++ y ∷ []) = strip x y inner (last_gone ns row).from (last_gone ns row).to (omega (arith, w.0)) w.1 (omega (arith, high, long)) in
        let v = first_within ns row two in
        let within : (first_gone ns row).to < length (without (last_gone ns row) row) = first_high ns row two in
        let shorter_long : length (without (last_gone ns row) row) ≡ length shorter + 2 = (let l = length-append shorter (y ∷ []) in omega (arith, ap length first_is, l)) in
        let ff : ℕ = (first_gone ns row).from - 1 in
        let ft : ℕ = (first_gone ns row).to - 1 in
        let inner_left : List ℕ = take ff shorter ++ drop ft shorter in
        let second_is : without (first_gone ns row) (x ∷ (shorter ++ y ∷ [])) ≡ x ∷ (inner_left ++ y ∷ []) = strip x y shorter (first_gone ns row).from (first_gone ns row).to v.from v.order (omega (arith, within, shorter_long)) in
        let within_inner : lt ≤ length inner = omega (arith, high, long) in
        let far : lf ≤ length shorter = omega (arith, w.1, within_inner, length-append (take lf inner) (drop lt inner), length-take lf inner) in
        record {
          inner_left = inner_left;
          is = ap (without (first_gone ns row)) first_is ∙ second_is;
          leave = record {
            shorter = standing ns shorter;
            last = last_tree inner lf lt (omega (arith, w.1)) within_inner (last_blank lf (omega (arith, low_last, w.0))) (last_case (last_gone ns row).from (last_gone ns row).to lt (omega (arith, w.0, w.1)) within_inner last_line);
            first = first_tree shorter ff ft (omega (arith, v.order)) (omega (arith, within, shorter_long)) (first_blank shorter first_is ft (omega (arith, v.to, far, w.0)) (omega (arith, v.to, v.from, v.order)))
                (first_case shorter first_is (first_gone ns row).from (first_gone ns row).to ff (omega (arith, v.from)) (omega (arith, v.order, v.to, far, w.0)) (omega (arith, v.order, v.to, v.from)) first_line);
          };
        }
      where
        low_last : length row - 1 - last_blanks ns (inside row) ≤ (last_gone ns row).from
        low_last = last_low ns row two

        at_row : (j : ℕ) → j < length inner → slice_index inner j ≡ slice_index row (suc j)
        at_row j h = sym (get_or_append_left inner (y ∷ []) 0 j h)

        last_blank : (f : ℕ) → length row - 1 - last_blanks ns (inside row) ≤ suc f → (j : ℕ) → f ≤ j → j < length inner → is_blank_at ns (slice_index inner j) ≡ true
        last_blank f low j h k = ap (is_blank_at ns) (at_row j k) ∙ back_blank ns row two (suc j) (omega (arith, low, h)) (omega (arith, k, long))

        last_case : (from to t : ℕ) → suc t ≡ to → t ≤ length inner → LastLine from to → (from - 1 ≡ t) ⊎ ((t < length inner) × (is_newline_at ns (slice_index inner t) ≡ true))
        last_case from to t e h (inl same) = inl (omega (arith, same, e))
        last_case from to t e h (inr (low, nl)) =
            let there : t < length inner = omega (arith, low, e, long) in
            inr (there, ap (is_newline_at ns) (at_row t there ∙ ap (slice_index row) e) ∙ nl)

        at_shorter : (shorter : List ℕ) → without (last_gone ns row) row ≡ x ∷ (shorter ++ y ∷ []) → (j : ℕ) → j < length shorter → suc j < 1 + blanks ns (inside row) → slice_index shorter j ≡ slice_index row (suc j)
        at_shorter shorter e j h k =
            sym (get_or_append_left shorter (y ∷ []) 0 j h) ∙ ap (λ l. slice_index l (suc j)) (sym e) ∙ shorter_at ns row two (suc j) k

        first_blank : (shorter : List ℕ) → without (last_gone ns row) row ≡ x ∷ (shorter ++ y ∷ []) → (t : ℕ) → t ≤ length shorter → suc t ≤ 1 + blanks ns (inside row) → (j : ℕ) → j < t → is_blank_at ns (slice_index shorter j) ≡ true
        first_blank shorter e t within k j h =
            let near : suc j < 1 + blanks ns (inside row) = omega (arith, h, k) in
            ap (is_blank_at ns) (at_shorter shorter e j (omega (arith, h, within)) near) ∙ front_blank ns row two (suc j) (omega arith) near

        first_case : (shorter : List ℕ) → without (last_gone ns row) row ≡ x ∷ (shorter ++ y ∷ []) → (from to f : ℕ) → suc f ≡ from → f ≤ length shorter → suc f ≤ 1 + blanks ns (inside row) → FirstLine from to → (f ≡ to - 1) ⊎ ((1 ≤ f) × (is_newline_at ns (slice_index shorter (f - 1)) ≡ true))
        first_case shorter e from to f is within k (inl same) = inl (omega (arith, same, is))
        first_case shorter e from to f is within k (inr (some, nl)) =
            let g : suc (f - 1) ≡ from - 1 = omega (arith, some, is) in
            inr (omega (arith, some, is), ap (is_newline_at ns) (at_shorter shorter e (f - 1) (omega (arith, some, is, within)) (omega (arith, some, is, k)) ∙ ap (slice_index row) g) ∙ nl)
