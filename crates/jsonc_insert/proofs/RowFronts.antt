-- What a plan reads of a row ends with the first element that comes.
use Rattle.std.proofs.Common.{◌≡◌, ◌≤◌, ◌+◌, ◌-◌, ◌⊎◌, inl, inr, ℕ, zero, suc, Bool, true, false, not, ◌&&◌, cond, List, [], ◌∷◌, ◌++◌, length, take, drop, slice_get, slice_index, slice_range, Option, Some, None, option_map, is_some, refl, sym, ap, subst, ◌∙◌, arith, length-append}
use Rattle.std.specs.List.{list_all, list_any, take_while}
use Rattle.std.proofs.lemmas.Bool.{cases_Bool, false≢true}
use Rattle.std.proofs.lemmas.List.{get_or_append_left, take_rest}
use Rattle.std.proofs.lemmas.List.Sums.{take_while-cons}
use Rattle.jsonc_tree.specs.Content as content
use Rattle.jsonc_tree.specs.Content.{Content}
use Rattle.jsonc_tree.specs.Siblings.{siblings_after}
use Rattle.jsonc_tree.specs.Tree.{Node, children_at, content_at, parent_at, IsTree}
use Rattle.jsonc_layout.specs.nodes.Kinds.{is_element, is_element_at, is_inline_trivia_at, is_newline_at, is_trivia, is_trivia_at}
use Rattle.jsonc_layout.specs.nodes.Siblings.{is_no_newline_at}
use Rattle.jsonc_insert.specs.Neighbours.{IsBeside}
use Rattle.jsonc_insert.specs.Planned.{before_next, begins_with_comma, behind_comma, comma_comes, comma_wanted, comments_on_line, elements, has_brackets, line, line_if, parting, past_comments, place_in, plan_alone, plan_behind, plan_between, plan_by, plan_first, through_comments, through_element, trivia}
use Rattle.jsonc_insert.specs.Trimmed.{last_spaces}
use Rattle.jsonc_insert.specs.declared.neighbours.Neighbours.{Neighbours}
use Rattle.jsonc_insert.specs.declared.plan.Plan.{Plan}
use Rattle.jsonc_insert.specs.declared.plan.Gap.TheVariants.{Nothing, Space}
use Rattle.jsonc_insert.proofs.BeforeTheBracket.{token_no_element}
use Rattle.jsonc_insert.proofs.Counting.{beside_none, count, count_append, passes_comma, passes_comments}
use Rattle.jsonc_insert.proofs.TrimmedRows.{front_token}
use Rattle.jsonc_insert.proofs.Windows.{beside_told, front_told, place_at_least, wanted_at}

-- an element is no trivia
no_trivia : (c : Content) → is_element c ≡ true → is_trivia c ≡ false
no_trivia (content.whitespace s) e = absurd (false≢true e)
no_trivia (content.newline k) e = absurd (false≢true e)
no_trivia (content.comment s) e = absurd (false≢true e)
no_trivia _ e = cc

module _ (ns : List Node) where
  abbrev front : List ℕ → List ℕ
  front row = through_element ns row

  pub at_element : (n : ℕ) (row : List ℕ) → is_element_at ns n ≡ true → front (n ∷ row) ≡ n ∷ []
  at_element n row e = ap (λ b. n ∷ cond b [] (front row)) e

  pub past_other : (n : ℕ) (row : List ℕ) → is_element_at ns n ≡ false → front (n ∷ row) ≡ n ∷ front row
  past_other n row e = ap (λ b. n ∷ cond b [] (front row)) e

  -- the row goes on behind it
  pub front_of : (row : List ℕ) → (rest : List ℕ) × (row ≡ front row ++ rest)
  front_of [] = ([], refl)
  front_of (n ∷ row) = elim (cases_Bool (is_element_at ns n)) [
    | inl e ↦ (row, ap (λ l. l ++ row) (sym (at_element n row e)))
    | inr e ↦ let more = front_of row in (more.0, ap (λ l. n ∷ l) more.1 ∙ ap (λ l. l ++ more.0) (sym (past_other n row e)))
  ]

  -- trivia that come
  trivia_stop : (n : ℕ) (xs : List ℕ) → is_trivia_at ns n ≡ false → take_while (is_trivia_at ns) (n ∷ xs) ≡ []
  trivia_stop n xs e = take_while-cons (is_trivia_at ns) n xs ∙ ap (λ b. cond b (n ∷ take_while (is_trivia_at ns) xs) []) e

  trivia_go : (n : ℕ) (xs : List ℕ) → is_trivia_at ns n ≡ true → take_while (is_trivia_at ns) (n ∷ xs) ≡ n ∷ take_while (is_trivia_at ns) xs
  trivia_go n xs e = take_while-cons (is_trivia_at ns) n xs ∙ ap (λ b. cond b (n ∷ take_while (is_trivia_at ns) xs) []) e

  same_trivia : (row : List ℕ) → take_while (is_trivia_at ns) (front row) ≡ take_while (is_trivia_at ns) row
  same_trivia [] = refl
  same_trivia (n ∷ row) = elim (cases_Bool (is_element_at ns n)) [
    | inl e ↦ (
        let off = no_trivia (content_at ns n) e in
        ap (take_while (is_trivia_at ns)) (at_element n row e) ∙ trivia_stop n [] off ∙ sym (trivia_stop n row off)
        )
    | inr e ↦ (
        ap (take_while (is_trivia_at ns)) (past_other n row e) ∙ take_while-cons (is_trivia_at ns) n (front row)
        ∙ ap (λ l. cond (is_trivia_at ns n) (n ∷ l) []) (same_trivia row) ∙ sym (take_while-cons (is_trivia_at ns) n row)
        )
  ]

  -- the comma past them
  comma_stop : (n : ℕ) (xs : List ℕ) → is_trivia_at ns n ≡ false → comma_comes ns (n ∷ xs) ≡ begins_with_comma ns (n ∷ [])
  comma_stop n xs e = ap (λ l. begins_with_comma ns (drop (length l) (n ∷ xs))) (trivia_stop n xs e)

  comma_go : (n : ℕ) (xs : List ℕ) → is_trivia_at ns n ≡ true → comma_comes ns (n ∷ xs) ≡ comma_comes ns xs
  comma_go n xs e = ap (λ l. begins_with_comma ns (drop (length l) (n ∷ xs))) (trivia_go n xs e)

  same_comma : (row : List ℕ) → comma_comes ns (front row) ≡ comma_comes ns row
  same_comma [] = refl
  same_comma (n ∷ row) = by (same_comma row) (cases_Bool (is_element_at ns n)) (cases_Bool (is_trivia_at ns n))
    where
      by : comma_comes ns (front row) ≡ comma_comes ns row → (is_element_at ns n ≡ true) ⊎ (is_element_at ns n ≡ false) → (is_trivia_at ns n ≡ true) ⊎ (is_trivia_at ns n ≡ false) → comma_comes ns (front (n ∷ row)) ≡ comma_comes ns (n ∷ row)
      by more (inl e) t =
          let off = no_trivia (content_at ns n) e in
          ap (comma_comes ns) (at_element n row e) ∙ comma_stop n [] off ∙ sym (comma_stop n row off)
      by more (inr e) (inl on) = ap (comma_comes ns) (past_other n row e) ∙ comma_go n (front row) on ∙ more ∙ sym (comma_go n row on)
      by more (inr e) (inr off) = ap (comma_comes ns) (past_other n row e) ∙ comma_stop n (front row) off ∙ sym (comma_stop n row off)

  -- the comments on the line
  abbrev inline : List ℕ → Bool
  inline xs = list_all (is_inline_trivia_at ns) xs

  cut : (b : Bool) (n : ℕ) (xs : List ℕ) → is_inline_trivia_at ns n ≡ false → inline (cond b (n ∷ xs) []) ≡ not b
  cut true n xs e = ap (λ t. t && inline xs) e
  cut false n xs e = refl

  kept : (b : Bool) (n : ℕ) (xs ys : List ℕ) → inline xs ≡ inline ys → inline (cond b (n ∷ xs) []) ≡ inline (cond b (n ∷ ys) [])
  kept true n xs ys e = ap (λ t. is_inline_trivia_at ns n && t) e
  kept false n xs ys e = refl

  all_kept : (b : Bool) (n : ℕ) (xs ys : List ℕ) → is_inline_trivia_at ns n ≡ true → (inline ys ≡ true → xs ≡ ys) → inline (cond b (n ∷ ys) []) ≡ true → cond b (n ∷ xs) [] ≡ cond b (n ∷ ys) []
  all_kept true n xs ys i same e = ap (λ l. n ∷ l) (same (ap (λ t. t && inline ys) (sym i) ∙ e))
  all_kept false n xs ys i same e = refl

  none_kept : (b : Bool) (n : ℕ) (xs ys : List ℕ) → not b ≡ true → cond b (n ∷ xs) [] ≡ cond b (n ∷ ys) []
  none_kept true n xs ys e = absurd (false≢true e)
  none_kept false n xs ys e = refl

  line_cons : (n : ℕ) (xs : List ℕ) → line ns (n ∷ xs) ≡ cond (is_no_newline_at ns n) (n ∷ line ns xs) []
  line_cons n xs = take_while-cons (is_no_newline_at ns) n xs

  abbrev SameLine : List ℕ → Type 0
  SameLine row = (inline (line ns (front row)) ≡ inline (line ns row)) × (inline (line ns row) ≡ true → line ns (front row) ≡ line ns row)

  front_cons : (n : ℕ) (row : List ℕ) → (xs : List ℕ) × (front (n ∷ row) ≡ n ∷ xs)
  front_cons n row = (cond (is_element_at ns n) [] (front row), refl)

  same_line : (row : List ℕ) → SameLine row
  same_line [] = (refl, λ e. refl)
  same_line (n ∷ row) = by (same_line row) (cases_Bool (is_inline_trivia_at ns n))
    where
      b : Bool
      b = is_no_newline_at ns n

      by : SameLine row → (is_inline_trivia_at ns n ≡ true) ⊎ (is_inline_trivia_at ns n ≡ false) → SameLine (n ∷ row)
      by more (inl on) =
          let e = beside_none (content_at ns n) on in
          let here : line ns (front (n ∷ row)) ≡ cond b (n ∷ line ns (front row)) [] = ap (line ns) (past_other n row e) ∙ line_cons n (front row) in (
            ap inline here ∙ kept b n (line ns (front row)) (line ns row) more.0 ∙ ap inline (sym (line_cons n row)),
            λ all. here ∙ all_kept b n (line ns (front row)) (line ns row) on more.1 (sym (ap inline (line_cons n row)) ∙ all) ∙ sym (line_cons n row),
          )
      by more (inr off) =
          let it = front_cons n row in
          let here : line ns (front (n ∷ row)) ≡ cond b (n ∷ line ns it.0) [] = ap (line ns) it.1 ∙ line_cons n it.0 in
          let whole : inline (line ns (n ∷ row)) ≡ not b = ap inline (line_cons n row) ∙ cut b n (line ns row) off in (
            ap inline here ∙ cut b n (line ns it.0) off ∙ sym whole,
            λ all. here ∙ none_kept b n (line ns it.0) (line ns row) (sym whole ∙ all) ∙ sym (line_cons n row),
          )

  same_comments : (row : List ℕ) → comments_on_line ns (front row) ≡ comments_on_line ns row
  same_comments row = by (cases_Bool (inline (line ns row)))
    where
      none : (xs : List ℕ) → inline xs ≡ false → through_comments ns xs ≡ 0
      none xs e = ap (λ b. cond b (length xs - last_spaces ns xs) 0) e

      by : (inline (line ns row) ≡ true) ⊎ (inline (line ns row) ≡ false) → comments_on_line ns (front row) ≡ comments_on_line ns row
      by (inl all) = ap (through_comments ns) ((same_line row).1 all)
      by (inr off) = none (line ns (front row)) ((same_line row).0 ∙ off) ∙ sym (none (line ns row) off)

  -- past what is no element the same holds
  passed : (row : List ℕ) (k : ℕ) → count ns (take k row) ≡ 0 → drop k (front row) ≡ front (drop k row)
  passed row zero e = refl
  passed [] (suc k) e = refl
  passed (n ∷ row) (suc k) e = elim (cases_Bool (is_element_at ns n)) [
    | inl on ↦ (
        let some : length (cond (is_element_at ns n) (n ∷ elements ns (take k row)) (elements ns (take k row))) ≡ suc (count ns (take k row)) = ap (λ b. length (cond b (n ∷ elements ns (take k row)) (elements ns (take k row)))) on in
        absurd (omega (arith, some, e))
        )
    | inr off ↦ (
        let none : length (cond (is_element_at ns n) (n ∷ elements ns (take k row)) (elements ns (take k row))) ≡ count ns (take k row) = ap (λ b. length (cond b (n ∷ elements ns (take k row)) (elements ns (take k row)))) off in
        ap (drop (suc k)) (past_other n row off) ∙ passed row k (sym none ∙ e)
        )
  ]

  -- a plan behind a node, by that and what follows through the next element
  module _ (several commas : Bool) (n : ℕ) (row : List ℕ) where
    abbrev w : List ℕ
    w = n ∷ row

    abbrev v : List ℕ
    v = n ∷ front row

    reach : (k : ℕ) → 1 ≤ k → count ns (take k w) ≡ count ns (take 1 w) → slice_range v k (length v) ≡ front (slice_range w k (length w))
    reach zero low e = absurd (omega (arith, low))
    reach (suc k) low e =
        let none : count ns (take k row) ≡ 0 = omega (arith, e, count_append ns (n ∷ []) (take k row)) in
        take_rest v (suc k) ∙ passed row k none ∙ ap front (sym (take_rest w (suc k)))

    same_behind : behind_comma ns v 1 ≡ behind_comma ns w 1
    same_behind =
        ap (λ b. cond b (1 + trivia ns (front row) + 1) 1) (same_comma row)
        ∙ ap (λ l. cond (comma_comes ns row) (1 + length l + 1) 1) (same_trivia row)

    same_wanted : comma_wanted ns v 1 ≡ comma_wanted ns w 1
    same_wanted = ap (λ b. cond b None (Some 1)) (same_comma row)

    behind_low : (b : Bool) (t : ℕ) → 1 ≤ cond b (1 + t + 1) 1
    behind_low true t = omega arith
    behind_low false t = omega arith

    abbrev q : ℕ
    q = behind_comma ns w 1

    low : 1 ≤ q
    low = behind_low (comma_comes ns row) (trivia ns row)

    same_past : past_comments ns v q ≡ past_comments ns w q
    same_past =
        ap (λ l. q + comments_on_line ns l) (reach q low (passes_comma ns w 1))
        ∙ ap (λ k. q + k) (same_comments (slice_range w q (length w)))

    abbrev r : ℕ
    r = past_comments ns w q

    same_next : before_next ns several (slice_range v r (length v)) ≡ before_next ns several (slice_range w r (length w))
    same_next =
        ap (before_next ns several) (reach r (omega (arith, low)) (passes_comments ns w q ∙ passes_comma ns w 1))
        ∙ ap (λ l. cond several (line_if (several && not (list_any (is_newline_at ns) l))) Space) (same_trivia (slice_range w r (length w)))

    between_same : (more : Bool) (c d : Option ℕ) (p : ℕ) → c ≡ d → p ≡ r → plan_between ns several commas v more c p ≡ plan_between ns several commas w more d r
    between_same true c d p e f =
        ap (λ o. record { comma = o; place = p; before = parting several; comma_behind = true; behind = before_next ns several (slice_range v p (length v)) }) e
        ∙ ap (λ j. record { comma = d; place = j; before = parting several; comma_behind = true; behind = before_next ns several (slice_range v j (length v)) }) f
        ∙ ap (λ g. record { comma = d; place = r; before = parting several; comma_behind = true; behind = g }) same_next
    between_same false c d p e f =
        ap (λ o. record { comma = o; place = p; before = parting several; comma_behind = several && commas; behind = Nothing }) e
        ∙ ap (λ j. record { comma = d; place = j; before = parting several; comma_behind = several && commas; behind = Nothing }) f

    pub same_plan : (more : Bool) → plan_behind ns several commas v more 1 ≡ plan_behind ns several commas w more 1
    same_plan more = between_same more (comma_wanted ns v 1) (comma_wanted ns w 1) (past_comments ns v (behind_comma ns v 1)) same_wanted (ap (past_comments ns v) same_behind ∙ same_past)

    -- the nodes that it names are the same
    pub within_row : (k : ℕ) → k ≤ length v → k ≤ length w
    within_row k h = let more = front_of row in omega (arith, h, ap length more.1, length-append (front row) more.0)

    pub at_place : (k : ℕ) → 1 ≤ k → k ≤ length v → slice_index v (k - 1) ≡ slice_index w (k - 1)
    at_place k some h =
        let more = front_of row in
        sym (ap (λ l. slice_index (n ∷ l) (k - 1)) more.1 ∙ get_or_append_left v more.0 0 (k - 1) (omega (arith, some, h)))

    pub at_comma : (b : Bool) → option_map (λ k. slice_index v (k - 1)) (cond b None (Some 1)) ≡ option_map (λ k. slice_index w (k - 1)) (cond b None (Some 1))
    at_comma true = refl
    at_comma false = refl

  -- the plan with no element before the new one, by the row through its first element
  first_some : (row : List ℕ) → is_some (slice_get (elements ns (front row)) 0) ≡ is_some (slice_get (elements ns row) 0)
  first_some [] = refl
  first_some (n ∷ row) = elim (cases_Bool (is_element_at ns n)) [
    | inl e ↦ (
        ap (λ l. is_some (slice_get (elements ns l) 0)) (at_element n row e) ∙ ap (λ b. is_some (slice_get (cond b (n ∷ []) []) 0)) e
        ∙ sym (ap (λ b. is_some (slice_get (cond b (n ∷ elements ns row) (elements ns row)) 0)) e)
        )
    | inr e ↦ (
        ap (λ l. is_some (slice_get (elements ns l) 0)) (past_other n row e) ∙ ap (λ b. is_some (slice_get (cond b (n ∷ elements ns (front row)) (elements ns (front row))) 0)) e
        ∙ first_some row ∙ sym (ap (λ b. is_some (slice_get (cond b (n ∷ elements ns row) (elements ns row)) 0)) e)
        )
  ]

  whole : (row : List ℕ) → is_some (slice_get (elements ns row) 0) ≡ false → front row ≡ row
  whole [] none = refl
  whole (n ∷ row) none = elim (cases_Bool (is_element_at ns n)) [
    | inl e ↦ absurd (false≢true (sym none ∙ ap (λ b. is_some (slice_get (cond b (n ∷ elements ns row) (elements ns row)) 0)) e))
    | inr e ↦ past_other n row e ∙ ap (λ l. n ∷ l) (whole row (sym (ap (λ b. is_some (slice_get (cond b (n ∷ elements ns row) (elements ns row)) 0)) e) ∙ none))
  ]

  pub front_brackets : (row : List ℕ) → has_brackets ns row ≡ true → is_some (slice_get (elements ns (front row)) 0) ≡ false → has_brackets ns (front row) ≡ true
  front_brackets row brackets none = ap (has_brackets ns) (whole row (sym (first_some row) ∙ none)) ∙ brackets

  pub front_size : (row : List ℕ) → has_brackets ns row ≡ true → 2 ≤ length (front row)
  front_size [] brackets = absurd (false≢true brackets)
  front_size (n ∷ []) brackets = absurd (false≢true brackets)
  front_size (n ∷ m ∷ row) brackets = elim (cases_Bool (is_element_at ns n)) [
    | inl e ↦ absurd (token_no_element (content_at ns n) (front_token ns (n ∷ m ∷ row) brackets) e)
    | inr e ↦ omega (arith, ap length (past_other n (m ∷ row) e))
  ]

  pub same_front : (several commas : Bool) (row : List ℕ) → has_brackets ns row ≡ true → (i : ℕ) → plan_by ns several commas (front row) i None ≡ plan_by ns several commas row i None
  same_front several commas [] brackets i = refl
  same_front several commas (n ∷ row) brackets i = by (cases_Bool (is_some (slice_get (elements ns (n ∷ row)) 0)))
    where
      v : List ℕ
      v = front (n ∷ row)

      token : is_element_at ns n ≡ false
      token = elim (cases_Bool (is_element_at ns n)) [
        | inl e ↦ absurd (token_no_element (content_at ns n) (front_token ns (n ∷ row) brackets) e)
        | inr e ↦ e
      ]

      next : slice_range v 1 (length v) ≡ front (slice_range (n ∷ row) 1 (length (n ∷ row)))
      next = take_rest v 1 ∙ ap (drop 1) (past_other n row token) ∙ ap front (sym (take_rest (n ∷ row) 1))

      first_same : plan_first ns several v ≡ plan_first ns several (n ∷ row)
      first_same =
          ap (λ g. record { comma = None; place = 1; before = line_if several; comma_behind = true; behind = g })
          (ap (before_next ns several) next
          ∙ ap (λ l. cond several (line_if (several && not (list_any (is_newline_at ns) l))) Space) (same_trivia (slice_range (n ∷ row) 1 (length (n ∷ row)))))

      by : (is_some (slice_get (elements ns (n ∷ row)) 0) ≡ true) ⊎ (is_some (slice_get (elements ns (n ∷ row)) 0) ≡ false) → plan_by ns several commas v i None ≡ plan_by ns several commas (n ∷ row) i None
      by (inl some) =
          ap (λ b. cond b (plan_first ns several v) (plan_alone ns several v)) (first_some (n ∷ row) ∙ some) ∙ first_same
          ∙ sym (ap (λ b. cond b (plan_first ns several (n ∷ row)) (plan_alone ns several (n ∷ row))) some)
      by (inr none) = ap (λ l. plan_by ns several commas l i None) (whole (n ∷ row) none)

-- so what is read through the next element tells where an element comes
pub beside_read : (ns : List Node) (tree : IsTree ns) (c n : ℕ) (said : parent_at ns n ≡ Some c) (several commas more : Bool) (i : ℕ) → is_some (slice_get (elements ns (children_at ns c)) i) ≡ more
    → (v : List ℕ) → v ≡ n ∷ through_element ns (siblings_after ns n) → (q : Plan) → q ≡ plan_behind ns several commas v more 1 → q.place ≤ length v
    → (b : Neighbours) → b.plan ≡ q → b.after ≡ slice_index v (q.place - 1) → b.comma ≡ option_map (λ k. slice_index v (k - 1)) q.comma
    → IsBeside ns c (plan_behind ns several commas (children_at ns c) (is_some (slice_get (elements ns (children_at ns c)) i)) (place_in n (children_at ns c) + 1)) b
beside_read ns tree c n said several commas more i tells v all q is high b plan after comma =
    let row : List ℕ = siblings_after ns n in
    let w : List ℕ = n ∷ row in
    let same : q ≡ plan_behind ns several commas w more 1 = is ∙ ap (λ l. plan_behind ns several commas l more 1) all ∙ same_plan ns several commas n row more in
    let within : q.place ≤ length (n ∷ through_element ns row) = subst (λ l. q.place ≤ length l) all high in
    let low : 1 ≤ q.place = subst (λ (p : Plan). 1 ≤ p.place) (sym same) (place_at_least ns tree c n said several commas more w) in
    let told : q.comma ≡ comma_wanted ns w 1 = ap (λ (p : Plan). p.comma) same ∙ wanted_at ns tree c n said several commas more w in
    beside_told ns tree c n said several commas more i tells w refl q same (within_row ns several commas n row q.place within) b plan
    (after ∙ ap (λ l. slice_index l (q.place - 1)) all ∙ at_place ns several commas n row q.place low within)
    (comma ∙ ap (λ l. option_map (λ k. slice_index l (k - 1)) q.comma) all
    ∙ ap (option_map (λ k. slice_index (n ∷ through_element ns row) (k - 1))) told ∙ at_comma ns several commas n row (comma_comes ns row)
    ∙ ap (option_map (λ k. slice_index w (k - 1))) (sym told))

-- and one with none before it
pub front_read : (ns : List Node) (tree : IsTree ns) (c : ℕ) (several : Bool) → has_brackets ns (children_at ns c) ≡ true → (v : List ℕ) → v ≡ through_element ns (children_at ns c)
    → (q : Plan) → 1 ≤ q.place → q.place ≤ length v → q.comma ≡ None → (b : Neighbours) → b.plan ≡ q → b.after ≡ slice_index v (q.place - 1) → b.comma ≡ option_map (λ k. slice_index v (k - 1)) q.comma
    → ((commas : Bool) (i : ℕ) → q ≡ plan_by ns several commas v i None) → (commas : Bool) (i : ℕ) → IsBeside ns c (plan_by ns several commas (children_at ns c) i None) b
front_read ns tree c several brackets u all p some high none b plan after comma is commas i =
    let row : List ℕ = children_at ns c in
    let more = front_of ns row in
    let within : p.place ≤ length (through_element ns row) = subst (λ l. p.place ≤ length l) all high in
    let long : p.place ≤ length row = omega (arith, within, ap length more.1, length-append (through_element ns row) more.0) in
    let at : slice_index (through_element ns row) (p.place - 1) ≡ slice_index row (p.place - 1) =
    sym (ap (λ l. slice_index l (p.place - 1)) more.1 ∙ get_or_append_left (through_element ns row) more.0 0 (p.place - 1) (omega (arith, some, within))) in
    front_told ns tree c row refl p some long none b plan
    (after ∙ ap (λ l. slice_index l (p.place - 1)) all ∙ at)
    (comma ∙ ap (option_map (λ k. slice_index u (k - 1))) none ∙ ap (option_map (λ k. slice_index row (k - 1))) (sym none)) _
    (is commas i ∙ ap (λ l. plan_by ns several commas l i None) all ∙ same_front ns several commas row brackets i)
