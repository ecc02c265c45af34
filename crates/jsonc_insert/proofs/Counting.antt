-- How many elements stand before the place where a new one comes.
use Rattle.std.proofs.Common.{◌≡◌, ◌≢◌, ◌<◌, ◌≤◌, ◌+◌, ◌-◌, ◌⊎◌, inl, inr, ℕ, zero, suc, min, Bool, true, false, not, cond, List, [], ◌∷◌, ◌++◌, All, length, reverse, take, drop, get_or, slice_get, slice_index, slice_range, Option, Some, None, is_some, refl, sym, ap, subst, ◌∙◌, arith, length-append, length-drop}
use Rattle.std.specs.List.{find, list_all, prefix_len}
use Rattle.std.specs.Option.{option_or}
use Rattle.std.proofs.lemmas.Bool.{cases_Bool, cases_eq, cases_lt, eq-eqb, false≢true, ne_eqb}
use Rattle.std.proofs.lemmas.List.{get_or-drop, get_or-take, reverse-append, take-append-drop, take_all, take_more}
use Rattle.std.proofs.lemmas.List.Edits.{get_or-between, length-between}
use Rattle.std.proofs.lemmas.List.Elements.{All-filter, All-from_get_or, filter-append}
use Rattle.std.proofs.lemmas.List.Folds.{find-append, length-prefix_len, list_all_at}
use Rattle.std.proofs.lemmas.List.Sums.{prefix_len_passes, prefix_len-le-length}
use Rattle.std.proofs.lemmas.Option.{slice_get_cases}
use Rattle.jsonc_tree.specs.Content as content
use Rattle.jsonc_tree.specs.Content.{Content}
use Rattle.jsonc_tree.specs.Changes.{EachOnce}
use Rattle.jsonc_tree.specs.Tree.{Node, content_at}
use Rattle.jsonc_layout.specs.nodes.Kinds.{is_inline_trivia, is_inline_trivia_at, is_element, is_element_at, is_trivia, is_trivia_at, is_comma_at, is_token, is_comma}
use Rattle.jsonc_layout.specs.lines.Breadth.{last_element}
use Rattle.jsonc_layout.specs.nodes.Siblings.{is_no_newline_at}
use Rattle.jsonc_insert.specs.Planned.{behind_comma, begins_with_comma, comma_wanted, elements, has_brackets, has_comma, is_other, line, past_comments, place_in, plan_alone, plan_behind, plan_between, plan_by, plan_first, planned, trivia}
use Rattle.jsonc_insert.specs.Trimmed.{last_spaces}
use Rattle.jsonc_insert.proofs.NoDuplicates.{once_right}
use Rattle.jsonc_insert.proofs.BeforeTheBracket.{token_no_element}
use Rattle.jsonc_insert.proofs.TrimmedRows.{front_token}

-- what is no element
trivia_none : (c : Content) → is_trivia c ≡ true → is_element c ≡ false
trivia_none (content.whitespace s) e = refl
trivia_none (content.newline k) e = refl
trivia_none (content.comment s) e = refl
trivia_none _ e = cc

pub beside_none : (c : Content) → is_inline_trivia c ≡ true → is_element c ≡ false
beside_none (content.whitespace s) e = refl
beside_none (content.comment s) e = refl
beside_none _ e = cc

comma_none : (c : Content) → is_comma c ≡ true → is_element c ≡ false
comma_none (content.token k) e = refl
comma_none _ e = cc

module _ (ns : List Node) where
  abbrev pub count : List ℕ → ℕ
  count xs = length (elements ns xs)

  one_none : (n : ℕ) → is_element_at ns n ≡ false → elements ns (n ∷ []) ≡ []
  one_none n e = ap (λ b. cond b (n ∷ []) []) e

  one_some : (n : ℕ) → is_element_at ns n ≡ true → elements ns (n ∷ []) ≡ n ∷ []
  one_some n e = ap (λ b. cond b (n ∷ []) []) e

  pub count_append : (xs ys : List ℕ) → count (xs ++ ys) ≡ count xs + count ys
  count_append xs ys = ap length (filter-append (is_element_at ns) xs ys) ∙ length-append (elements ns xs) (elements ns ys)

  -- no more stand in the front of a row than in the row
  count_take : (k : ℕ) (row : List ℕ) → count (take k row) ≤ count row
  count_take k row = omega (arith, count_append (take k row) (drop k row), ap count (take-append-drop k row))

  -- the last element of a longer row
  turned : (x : ℕ) (xs : List ℕ) → last_element ns (x ∷ xs) ≡ option_or (last_element ns xs) (cond (is_element_at ns x) (Some x) None)
  turned x xs = ap (find (is_element_at ns)) (reverse-append (x ∷ []) xs) ∙ find-append (is_element_at ns) (reverse xs) (x ∷ [])

  pub no_last : (row : List ℕ) → last_element ns row ≡ None → count row ≡ 0
  no_last [] e = refl
  no_last (x ∷ xs) e = by (no_last xs) (last_element ns xs) refl (is_element_at ns x) refl (sym (turned x xs) ∙ e)
    where
      by : (last_element ns xs ≡ None → count xs ≡ 0) → (o : Option ℕ) → last_element ns xs ≡ o → (b : Bool) → is_element_at ns x ≡ b → option_or o (cond b (Some x) None) ≡ None → count (x ∷ xs) ≡ 0
      by rest (Some y) f b g h = absurd (let wrong : Some y ≡ None = h in cc)
      by rest None f true g h = absurd (let wrong : Some x ≡ None = h in cc)
      by rest None f false g h = ap (λ b. length (cond b (x ∷ elements ns xs) (elements ns xs))) g ∙ rest f

  pub found_last : (row : List ℕ) (n : ℕ) → last_element ns row ≡ Some n → (0 < count row) × (slice_get (elements ns row) (count row - 1) ≡ Some n)
  found_last [] n e = absurd (let wrong : None ≡ Some n = e in cc)
  found_last (x ∷ xs) n e = by (found_last xs n) (last_element ns xs) refl (is_element_at ns x) refl (sym (turned x xs) ∙ e)
    where
      LastIs : List ℕ → Type 0
      LastIs els = (0 < length els) × (slice_get els (length els - 1) ≡ Some n)

      longer : LastIs (elements ns xs) → LastIs (x ∷ elements ns xs)
      longer l =
          let at : suc (length (elements ns xs) - 1) ≡ length (x ∷ elements ns xs) - 1 = omega (arith, l.0) in
          (omega arith, ap (slice_get (x ∷ elements ns xs)) (sym at) ∙ l.1)

      by : (last_element ns xs ≡ Some n → LastIs (elements ns xs)) → (o : Option ℕ) → last_element ns xs ≡ o → (b : Bool) → is_element_at ns x ≡ b → option_or o (cond b (Some x) None) ≡ Some n → LastIs (elements ns (x ∷ xs))
      by rest (Some y) f true g h = subst (λ b. LastIs (cond b (x ∷ elements ns xs) (elements ns xs))) (sym g) (longer (rest (f ∙ h)))
      by rest (Some y) f false g h = subst (λ b. LastIs (cond b (x ∷ elements ns xs) (elements ns xs))) (sym g) (rest (f ∙ h))
      by rest None f false g h = absurd (let wrong : None ≡ Some n = h in cc)
      by rest None f true g h =
          let none : length (elements ns xs) ≡ 0 = no_last xs f in
          let at : length (x ∷ elements ns xs) - 1 ≡ 0 = omega (arith, none) in
          subst (λ b. LastIs (cond b (x ∷ elements ns xs) (elements ns xs))) (sym g) (omega arith, ap (slice_get (x ∷ elements ns xs)) at ∙ h)

  -- nodes that are no elements are passed
  count_skip : (row : List ℕ) (p k : ℕ) → ((q : ℕ) → p ≤ q → q < p + k → q < length row → is_element_at ns (slice_index row q) ≡ false) → count (take (p + k) row) ≡ count (take p row)
  count_skip row p zero none = ap (λ n. count (take n row)) (omega arith)
  count_skip row p (suc k) none =
      let so_far : count (take (p + k) row) ≡ count (take p row) = count_skip row p k (λ q l h w. none q l (omega (arith, h)) w) in
      let one : p + suc k ≡ p + k + 1 = omega arith in
      ap (λ n. count (take n row)) one ∙ by (cases_lt (p + k) (length row)) ∙ so_far
    where
      by : ((p + k) < length row) ⊎ (length row ≤ (p + k)) → count (take (p + k + 1) row) ≡ count (take (p + k) row)
      by (inl low) =
          let here : count (slice_index row (p + k) ∷ []) ≡ 0 = ap length (one_none (slice_index row (p + k)) (none (p + k) (omega arith) (omega arith) low)) in
          let both = count_append (take (p + k) row) (slice_index row (p + k) ∷ []) in
          ap count (take_more row (p + k) 0 low) ∙ omega (arith, both, here)
      by (inr high) = ap count (take_all (p + k + 1) row (omega (arith, high)) ∙ sym (take_all (p + k) row high))

  -- an element stands behind as many as its number says
  module _ (n : ℕ) where
    in_row : (row : List ℕ) (k : ℕ) → EachOnce row → slice_get (elements ns row) k ≡ Some n → count (take (prefix_len (is_other n) row + 1) row) ≡ k + 1
    in_row [] k once e = absurd (let wrong : None ≡ Some n = e in cc)
    in_row (x ∷ xs) k once e =
        elim (cases_eq x n) [
          | inl same ↦ ap (λ r. count (take (r + 1) (x ∷ xs))) (ap (λ b. cond (not b) (1 + prefix_len (is_other n) xs) 0) (eq-eqb x n same)) ∙ first same (cases_Bool (is_element_at ns x)) k e
          | inr ne ↦
              let more : 1 + prefix_len (is_other n) xs + 1 ≡ suc (prefix_len (is_other n) xs + 1) = omega arith in
              ap (λ r. count (take r (x ∷ xs))) (ap (λ b. cond (not b) (1 + prefix_len (is_other n) xs) 0 + 1) (ne_eqb x n ne) ∙ more)
              ∙ later (λ j f. in_row xs j (once_right (x ∷ []) xs once) f) ne (cases_Bool (is_element_at ns x)) k e
        ]
      where
        out : All (λ m. x ≡ m → ⊥) xs
        out = All-from_get_or (λ m. x ≡ m → ⊥) xs 0 (λ j h same. let wrong : 0 ≡ suc j = once 0 (suc j) (omega arith) (omega (arith, h)) same in omega (arith, wrong))

        not_again : (j : ℕ) → slice_get (elements ns xs) j ≡ Some x → ⊥
        not_again j f = by (slice_get_cases (elements ns xs) j).1
          where
            by : ((y : ℕ) × (j < length (elements ns xs)) × (slice_get (elements ns xs) j ≡ Some y) × (get_or (elements ns xs) j y ≡ y)) ⊎ ((length (elements ns xs) ≤ j) × (slice_get (elements ns xs) j ≡ None)) → ⊥
            by (inl (y, lt, s, g)) =
                let some : Some y ≡ Some x = sym s ∙ f in
                let same : y ≡ x = cc in
                All-filter (is_element_at ns) (λ m. x ≡ m → ⊥) xs out j y lt (sym (g ∙ same))
            by (inr (ge, s)) = let wrong : None ≡ Some x = sym s ∙ f in cc

        first : x ≡ n → (is_element_at ns x ≡ true) ⊎ (is_element_at ns x ≡ false) → (k : ℕ) → slice_get (elements ns (x ∷ xs)) k ≡ Some n → count (x ∷ []) ≡ k + 1
        first same (inl el) zero f = ap length (one_some x el)
        first same (inl el) (suc j) f =
            let g : slice_get (elements ns xs) j ≡ Some n = sym (ap (λ b. slice_get (cond b (x ∷ elements ns xs) (elements ns xs)) (suc j)) el) ∙ f in
            absurd (not_again j (g ∙ ap Some (sym same)))
        first same (inr off) k f =
            let g : slice_get (elements ns xs) k ≡ Some n = sym (ap (λ b. slice_get (cond b (x ∷ elements ns xs) (elements ns xs)) k) off) ∙ f in
            absurd (not_again k (g ∙ ap Some (sym same)))

        later : ((j : ℕ) → slice_get (elements ns xs) j ≡ Some n → count (take (prefix_len (is_other n) xs + 1) xs) ≡ j + 1) → x ≢ n → (is_element_at ns x ≡ true) ⊎ (is_element_at ns x ≡ false) → (k : ℕ) → slice_get (elements ns (x ∷ xs)) k ≡ Some n → count (take (suc (prefix_len (is_other n) xs + 1)) (x ∷ xs)) ≡ k + 1
        later tail ne (inl el) zero f =
            let g : Some x ≡ Some n = sym (ap (λ b. slice_get (cond b (x ∷ elements ns xs) (elements ns xs)) 0) el) ∙ f in
            let same : x ≡ n = cc in
            absurd (ne same)
        later tail ne (inl el) (suc j) f =
            let g : slice_get (elements ns xs) j ≡ Some n = sym (ap (λ b. slice_get (cond b (x ∷ elements ns xs) (elements ns xs)) (suc j)) el) ∙ f in
            let rest = elements ns (take (prefix_len (is_other n) xs + 1) xs) in
            ap (λ b. length (cond b (x ∷ rest) rest)) el ∙ omega (arith, tail j g)
        later tail ne (inr off) k f =
            let g : slice_get (elements ns xs) k ≡ Some n = sym (ap (λ b. slice_get (cond b (x ∷ elements ns xs) (elements ns xs)) k) off) ∙ f in
            let rest = elements ns (take (prefix_len (is_other n) xs + 1) xs) in
            ap (λ b. length (cond b (x ∷ rest) rest)) off ∙ tail k g

    pub through : (row : List ℕ) (k : ℕ) → EachOnce row → slice_get (elements ns row) k ≡ Some n → count (take (place_in n row + 1) row) ≡ k + 1
    through row k once e = ap (λ p. count (take (p + 1) row)) (length-prefix_len (is_other n) row) ∙ in_row row k once e

  -- behind a comma, and past comments, no other element has been passed
  module _ (row : List ℕ) (p : ℕ) where
    after_at : (q : ℕ) → p ≤ q → slice_index (drop p row) (q - p) ≡ slice_index row q
    after_at q low = let at : p + (q - p) ≡ q = omega (arith, low) in get_or-drop p row (q - p) 0 ∙ ap (slice_index row) at

    trivia_is : (xs : List ℕ) → trivia ns xs ≡ prefix_len (is_trivia_at ns) xs
    trivia_is xs = length-prefix_len (is_trivia_at ns) xs

    comma_there : (xs : List ℕ) (t : ℕ) → begins_with_comma ns (drop t xs) ≡ true → (t < length xs) × (is_comma_at ns (slice_index xs t) ≡ true)
    comma_there xs t e = by (drop t xs) refl e
      where
        by : (ys : List ℕ) → drop t xs ≡ ys → begins_with_comma ns ys ≡ true → (t < length xs) × (is_comma_at ns (slice_index xs t) ≡ true)
        by [] f h = absurd (false≢true h)
        by (y ∷ ys) f h =
            let none : t + 0 ≡ t = omega arith in
            let at : slice_index xs t ≡ y = ap (slice_index xs) (sym none) ∙ sym (get_or-drop t xs 0 0) ∙ ap (λ l. slice_index l 0) f in
            (omega (arith, length-drop t xs, ap length f), ap (is_comma_at ns) at ∙ h)

    pub passes_comma : count (take (behind_comma ns row p) row) ≡ count (take p row)
    passes_comma = by (cases_Bool (has_comma ns row p))
      where
        by : (has_comma ns row p ≡ true) ⊎ (has_comma ns row p ≡ false) → count (take (behind_comma ns row p) row) ≡ count (take p row)
        by (inr off) = ap (λ b. count (take (cond b (p + trivia ns (drop p row) + 1) p) row)) off
        by (inl so) =
            let there = comma_there (drop p row) (trivia ns (drop p row)) so in
            let one : p + trivia ns (drop p row) + 1 ≡ p + (trivia ns (drop p row) + 1) = omega arith in
            ap (λ b. count (take (cond b (p + trivia ns (drop p row) + 1) p) row)) so
            ∙ ap (λ k. count (take k row)) one
            ∙ count_skip row p (trivia ns (drop p row) + 1) (λ q low high within. none q low high there (cases_lt (q - p) (trivia ns (drop p row))))
          where
            none : (q : ℕ) → p ≤ q → q < p + (trivia ns (drop p row) + 1) → (trivia ns (drop p row) < length (drop p row)) × (is_comma_at ns (slice_index (drop p row) (trivia ns (drop p row))) ≡ true)
                → ((q - p) < trivia ns (drop p row)) ⊎ (trivia ns (drop p row) ≤ (q - p)) → is_element_at ns (slice_index row q) ≡ false
            none q low high there (inl less) =
                let is = trivia_is (drop p row) in
                let passes : is_trivia_at ns (slice_index (drop p row) (q - p)) ≡ true = prefix_len_passes (is_trivia_at ns) (drop p row) (q - p) 0 (omega (arith, less, is)) in
                trivia_none (content_at ns (slice_index row q)) (sym (ap (is_trivia_at ns) (after_at q low)) ∙ passes)
            none q low high there (inr more) =
                let at : trivia ns (drop p row) ≡ q - p = omega (arith, more, high, low) in
                let comma : is_comma_at ns (slice_index (drop p row) (q - p)) ≡ true = subst (λ k. is_comma_at ns (slice_index (drop p row) k) ≡ true) at there.1 in
                comma_none (content_at ns (slice_index row q)) (sym (ap (is_comma_at ns) (after_at q low)) ∙ comma)

    line_short : length (line ns (slice_range row p (length row))) ≤ length row - p
    line_short =
        let l : length (slice_range row p (length row)) ≡ length row - p = length-between row p (length row) (omega arith) in
        omega (arith, length-prefix_len (is_no_newline_at ns) (slice_range row p (length row)), prefix_len-le-length (is_no_newline_at ns) (slice_range row p (length row)), l)

    line_at : (k : ℕ) → k < length (line ns (slice_range row p (length row))) → slice_index (line ns (slice_range row p (length row))) k ≡ slice_index row (p + k)
    line_at k h =
        get_or-take (prefix_len (is_no_newline_at ns) (slice_range row p (length row))) (slice_range row p (length row)) k 0 (omega (arith, h, length-prefix_len (is_no_newline_at ns) (slice_range row p (length row))))
        ∙ get_or-between row p (length row) k 0 (omega (arith, h, line_short))

    beside_at : list_all (is_inline_trivia_at ns) (line ns (slice_range row p (length row))) ≡ true → (k : ℕ) → k < length (line ns (slice_range row p (length row))) → is_element_at ns (slice_index row (p + k)) ≡ false
    beside_at all k h = by (cases_Bool (is_inline_trivia_at ns (slice_index (line ns (slice_range row p (length row))) k)))
      where
        by : (is_inline_trivia_at ns (slice_index (line ns (slice_range row p (length row))) k) ≡ true) ⊎ (is_inline_trivia_at ns (slice_index (line ns (slice_range row p (length row))) k) ≡ false) → is_element_at ns (slice_index row (p + k)) ≡ false
        by (inl so) = beside_none (content_at ns (slice_index row (p + k))) (sym (ap (is_inline_trivia_at ns) (line_at k h)) ∙ so)
        by (inr off) = absurd (false≢true (sym (list_all_at (is_inline_trivia_at ns) (line ns (slice_range row p (length row))) k 0 h off) ∙ all))

    pub passes_comments : count (take (past_comments ns row p) row) ≡ count (take p row)
    passes_comments = by (cases_Bool (list_all (is_inline_trivia_at ns) (line ns (slice_range row p (length row)))))
      where
        by : (list_all (is_inline_trivia_at ns) (line ns (slice_range row p (length row))) ≡ true) ⊎ (list_all (is_inline_trivia_at ns) (line ns (slice_range row p (length row))) ≡ false) → count (take (past_comments ns row p) row) ≡ count (take p row)
        by (inr off) = ap (λ b. count (take (p + cond b (length (line ns (slice_range row p (length row))) - last_spaces ns (line ns (slice_range row p (length row)))) 0) row)) off ∙ ap (λ n. count (take n row)) (omega arith)
        by (inl so) =
            let many : ℕ = length (line ns (slice_range row p (length row))) - last_spaces ns (line ns (slice_range row p (length row))) in
            ap (λ b. count (take (p + cond b (length (line ns (slice_range row p (length row))) - last_spaces ns (line ns (slice_range row p (length row)))) 0) row)) so
            ∙ count_skip row p many
            (λ q low high within.
            let at : p + (q - p) ≡ q = omega (arith, low) in
            subst (λ k. is_element_at ns (slice_index row k) ≡ false) at (beside_at so (q - p) (omega (arith, low, high))))

  -- where a plan puts a new element
  module _ (several commas : Bool) (row : List ℕ) (once : EachOnce row) where
    between_place : (more : Bool) (comma : Option ℕ) (p : ℕ) → (plan_between ns several commas row more comma p).place ≡ p
    between_place true comma p = refl
    between_place false comma p = refl

    behind_place : (more : Bool) (n k : ℕ) → slice_get (elements ns row) k ≡ Some n → count (take (plan_behind ns several commas row more (place_in n row + 1)).place row) ≡ k + 1
    behind_place more n k e =
        let p : ℕ = place_in n row + 1 in
        ap (λ q. count (take q row)) (between_place more (comma_wanted ns row p) (past_comments ns row (behind_comma ns row p)))
        ∙ passes_comments row (behind_comma ns row p) ∙ passes_comma row p ∙ through n row k once e

    none_front : has_brackets ns row ≡ true → count (take 1 row) ≡ 0
    none_front brackets = by row refl
      where
        by : (xs : List ℕ) → row ≡ xs → count (take 1 xs) ≡ 0
        by [] f = refl
        by (x ∷ xs) f = ap length (one_none x (no_element (cases_Bool (is_element_at ns x))))
          where
            first : is_token (content_at ns x) ≡ true
            first = subst (λ (l : List ℕ). is_token (content_at ns (slice_index l 0)) ≡ true) f (front_token ns row brackets)

            no_element : (is_element_at ns x ≡ true) ⊎ (is_element_at ns x ≡ false) → is_element_at ns x ≡ false
            no_element (inl so) = absurd (token_no_element (content_at ns x) first so)
            no_element (inr off) = off

    -- none stands in the row
    alone_place : count row ≡ 0 → (p : ℕ) → count (take p row) ≡ 0
    alone_place none p = omega (arith, count_take p row, none)

    no_first : is_some (slice_get (elements ns row) 0) ≡ false → count row ≡ 0
    no_first e = by (elements ns row) refl
      where
        by : (els : List ℕ) → elements ns row ≡ els → count row ≡ 0
        by [] f = ap length f
        by (x ∷ els) f = absurd (false≢true (sym e ∙ ap (λ l. is_some (slice_get l 0)) f))

    none_before : has_brackets ns row ≡ true → (i : ℕ) → count (take (plan_by ns several commas row i None).place row) ≡ 0
    none_before brackets i = by (cases_Bool (is_some (slice_get (elements ns row) 0)))
      where
        by : (is_some (slice_get (elements ns row) 0) ≡ true) ⊎ (is_some (slice_get (elements ns row) 0) ≡ false) → count (take (plan_by ns several commas row i None).place row) ≡ 0
        by (inl so) = ap (λ b. count (take (cond b (plan_first ns several row) (plan_alone ns several row)).place row)) so ∙ none_front brackets
        by (inr off) = alone_place (no_first off) (plan_by ns several commas row i None).place

    last_place : (n : ℕ) → last_element ns row ≡ Some n → (0 < count row) × (slice_get (elements ns row) (count row - 1) ≡ Some n)
    last_place n e = found_last row n e

    pub planned_count : has_brackets ns row ≡ true → (i : ℕ) → count (take (planned ns several commas row i).place row) ≡ min i (count row)
    planned_count brackets zero = none_before brackets 0 ∙ omega arith
    planned_count brackets (suc j) = by (slice_get_cases (elements ns row) j).1
      where
        by_last : (o : Option ℕ) → last_element ns row ≡ o → count row ≤ j → slice_get (elements ns row) j ≡ None → count (take (plan_by ns several commas row (suc j) (option_or (slice_get (elements ns row) j) (last_element ns row))).place row) ≡ min (suc j) (count row)
        by_last None f ge e =
            ap (λ o. count (take (plan_by ns several commas row (suc j) o).place row)) (ap (λ o. option_or o (last_element ns row)) e ∙ f)
            ∙ none_before brackets (suc j) ∙ omega (arith, no_last row f)
        by_last (Some n) f ge e =
            let l = last_place n f in
            ap (λ o. count (take (plan_by ns several commas row (suc j) o).place row)) (ap (λ o. option_or o (last_element ns row)) e ∙ f)
            ∙ behind_place (is_some (slice_get (elements ns row) (suc j))) n (count row - 1) l.1 ∙ omega (arith, l.0, ge)

        by : ((x : ℕ) × (j < length (elements ns row)) × (slice_get (elements ns row) j ≡ Some x) × (get_or (elements ns row) j x ≡ x)) ⊎ ((length (elements ns row) ≤ j) × (slice_get (elements ns row) j ≡ None)) → count (take (planned ns several commas row (suc j)).place row) ≡ min (suc j) (count row)
        by (inl (x, lt, e, g)) =
            ap (λ o. count (take (plan_by ns several commas row (suc j) (option_or o (last_element ns row))).place row)) e
            ∙ behind_place (is_some (slice_get (elements ns row) (suc j))) x j e ∙ omega (arith, lt)
        by (inr (ge, e)) = by_last (last_element ns row) refl ge e
