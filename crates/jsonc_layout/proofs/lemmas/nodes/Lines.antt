-- The siblings before a node on its line.
use Rattle.std.proofs.Common.{◌≡◌, ◌∙◌, sym, ap, refl, ℕ, suc, ◌-◌, ◌+◌, ◌<◌, ◌≤◌, ◌++◌, [], ◌∷◌, Bool, true, false, cond, not, List, length, get_or, take, drop, reverse, Option, None, Some, arith, get_or-take}
use Rattle.std.specs.List.{find, prefix_len, take_while}
use Rattle.std.proofs.lemmas.List.{drop_all, drop-take, get_or-reverse, length-drop, length-reverse, length-take-le, reverse-append, reverse-reverse, take-append-drop, take-append-le, take-take, take_all}
use Rattle.std.proofs.lemmas.List.Sums.{prefix_len-le-length}
use Rattle.std.proofs.lemmas.List.Folds.{length-prefix_len}
use Rattle.jsonc_tree.specs.Tree.{Node, children_at, parent_at, place_at, IsTree}
use Rattle.jsonc_tree.specs.Order.{with_parent}
use Rattle.jsonc_layout.specs.nodes.Kinds.{is_newline_at}
use Rattle.jsonc_layout.specs.nodes.Siblings.{is_no_newline_at, line_before, row_from_line, siblings_after, siblings_before}

-- of what stands before a place, so many at the end
module _ (row : List ℕ) (to count : ℕ) (enough : count ≤ to) (within : to ≤ length row) where
  abbrev the_last : List ℕ
  the_last = take count (drop (to - count) row)

  in_two : take to row ≡ take (to - count) row ++ the_last
  in_two =
      let same : to ≡ to - count + count = omega arith in
      let left : take (to - count) (take to row) ≡ take (to - count) row = take-take (to - count) to row (omega arith) in
      sym (take-append-drop (to - count) (take to row))
      ∙ ap (λ xs. xs ++ drop (to - count) (take to row)) left
      ∙ ap (λ k. take (to - count) row ++ drop (to - count) (take k row)) same
      ∙ ap (λ xs. take (to - count) row ++ xs) (drop-take (to - count) count row)

  last_length : length (reverse the_last) ≡ count
  last_length = length-reverse the_last ∙ length-take-le count (drop (to - count) row) (omega (arith, length-drop (to - count) row))

  pub last_back : the_last ≡ reverse (take count (reverse (take to row)))
  last_back =
      let front = take (to - count) row in
      let turned : reverse (take to row) ≡ reverse the_last ++ reverse front = ap (λ (xs : List ℕ). reverse xs) in_two ∙ reverse-append front the_last in
      let nearest : take count (reverse the_last ++ reverse front) ≡ reverse the_last =
      take-append-le count (reverse the_last) (reverse front) (omega (arith, last_length)) ∙ take_all count (reverse the_last) (omega (arith, last_length)) in
      sym (reverse-reverse the_last) ∙ ap (λ (xs : List ℕ). reverse xs) (sym nearest ∙ ap (take count) (sym turned))

-- the first that is one stands after those that are none
module _ (p : ℕ → Bool) where
  abbrev none_of : ℕ → Bool
  none_of x = not (p x)

  found_step : (x : ℕ) (xs : List ℕ) (m : ℕ) (b : Bool) → cond b (Some x) (find p xs) ≡ Some m → (find p xs ≡ Some m → (prefix_len none_of xs < length xs) × (get_or xs (prefix_len none_of xs) 0 ≡ m)) → (cond (not b) (1 + prefix_len none_of xs) 0 < suc (length xs)) × (get_or (x ∷ xs) (cond (not b) (1 + prefix_len none_of xs) 0) 0 ≡ m)
  found_step x xs m true e rest = (omega arith, let same : Some x ≡ Some m = e in cc)
  found_step x xs m false e rest =
      let r = rest e in
      let one : 1 + prefix_len none_of xs ≡ suc (prefix_len none_of xs) = omega arith in
      (omega (arith, r.0), ap (λ k. get_or (x ∷ xs) k 0) one ∙ r.1)

  pub found_after : (xs : List ℕ) (m : ℕ) → find p xs ≡ Some m → (prefix_len none_of xs < length xs) × (get_or xs (prefix_len none_of xs) 0 ≡ m)
  found_after [] m e = let wrong : None ≡ Some m = e in cc
  found_after (x ∷ xs) m e = found_step x xs m (p x) e (found_after xs m)

  nothing_step : (x : ℕ) (xs : List ℕ) (b : Bool) → cond b (Some x) (find p xs) ≡ None → (find p xs ≡ None → prefix_len none_of xs ≡ length xs) → cond (not b) (1 + prefix_len none_of xs) 0 ≡ suc (length xs)
  nothing_step x xs true e rest = let wrong : Some x ≡ None = e in cc
  nothing_step x xs false e rest = omega (arith, rest e)

  pub nothing_after : (xs : List ℕ) → find p xs ≡ None → prefix_len none_of xs ≡ length xs
  nothing_after [] e = refl
  nothing_after (x ∷ xs) e = nothing_step x xs (p x) e (nothing_after xs)

module _ (ns : List Node) (t : IsTree ns) (n : ℕ) where
  abbrev row_under : Option ℕ → List ℕ
  row_under o = with_parent o (children_at ns)

  abbrev back_under : Option ℕ → List ℕ
  back_under o = reverse (take (place_at ns n) (row_under o))

  abbrev many : Option ℕ → ℕ
  many o = prefix_len (is_no_newline_at ns) (back_under o)

  within_by : (o : Option ℕ) → parent_at ns n ≡ o → place_at ns n ≤ length (row_under o)
  within_by None said = omega (arith, t.alone n said)
  within_by (Some c) said = omega (arith, t.within n c said)

  length_back : (o : Option ℕ) → parent_at ns n ≡ o → length (back_under o) ≡ place_at ns n
  length_back o said = length-reverse (take (place_at ns n) (row_under o)) ∙ length-take-le (place_at ns n) (row_under o) (within_by o said)

  length_line : (o : Option ℕ) → length (reverse (take_while (is_no_newline_at ns) (back_under o))) ≡ many o
  length_line o = length-reverse (take_while (is_no_newline_at ns) (back_under o)) ∙ length-prefix_len (is_no_newline_at ns) (back_under o)

  line_by : (o : Option ℕ) → parent_at ns n ≡ o → take (length (reverse (take_while (is_no_newline_at ns) (back_under o)))) (drop (place_at ns n - length (reverse (take_while (is_no_newline_at ns) (back_under o)))) (row_under o)) ≡ reverse (take_while (is_no_newline_at ns) (back_under o))
  line_by o said =
      let few : many o ≤ place_at ns n = omega (arith, prefix_len-le-length (is_no_newline_at ns) (back_under o), length_back o said) in
      ap (λ k. take k (drop (place_at ns n - k) (row_under o))) (length_line o) ∙ last_back (row_under o) (place_at ns n) (many o) few (within_by o said)

  -- so many of the row from the line's start on are those before the node
  pub line_is : take (length (line_before ns n)) (row_from_line ns n) ≡ line_before ns n
  line_is = line_by (parent_at ns n) refl

  start_by : (o : Option ℕ) (m : ℕ) → parent_at ns n ≡ o → find (is_newline_at ns) (back_under o) ≡ Some m → siblings_after ns m ≡ drop (place_at ns n - length (reverse (take_while (is_no_newline_at ns) (back_under o)))) (row_under o)
  start_by None m said found =
      let at = found_after (is_newline_at ns) (back_under None) m found in
      absurd (omega (arith, at.0, length_back None said, t.alone n said))
  start_by (Some c) m said found =
      let row : List ℕ = children_at ns c in
      let k : ℕ = many (Some c) in
      let at = found_after (is_newline_at ns) (back_under (Some c)) m found in
      let long = length_back (Some c) said in
      let inn = t.within n c said in
      let taken : length (take (place_at ns n) row) ≡ place_at ns n = length-take-le (place_at ns n) row (omega arith) in
      let less : k < place_at ns n = omega (arith, at.0) in
      let here : get_or row (place_at ns n - 1 - k) 0 ≡ m =
      sym (get_or-take (place_at ns n) row (place_at ns n - 1 - k) 0 (omega arith))
      ∙ ap (λ l. get_or (take (place_at ns n) row) (l - 1 - k) 0) (sym taken)
      ∙ sym (get_or-reverse (take (place_at ns n) row) k 0 (omega arith))
      ∙ at.1 in
      let parent : parent_at ns m ≡ Some c = ap (parent_at ns) (sym here) ∙ t.named c (place_at ns n - 1 - k) (omega arith) in
      let place : place_at ns m ≡ place_at ns n - 1 - k = ap (place_at ns) (sym here) ∙ t.placed c (place_at ns n - 1 - k) (omega arith) in
      ap (λ o. drop (place_at ns m + 1) (row_under o)) parent
      ∙ ap (λ j. drop (j + 1) row) place
      ∙ ap (λ j. drop j row) (omega (arith, less, length_line (Some c)))

  -- after the line's end before the node its line begins
  pub line_start : (m : ℕ) → find (is_newline_at ns) (siblings_before ns n) ≡ Some m → siblings_after ns m ≡ row_from_line ns n
  line_start m found = start_by (parent_at ns n) m refl found

  whole_by : (o : Option ℕ) → parent_at ns n ≡ o → find (is_newline_at ns) (back_under o) ≡ None → row_under o ≡ drop (place_at ns n - length (reverse (take_while (is_no_newline_at ns) (back_under o)))) (row_under o)
  whole_by o said found =
      let zero_left : place_at ns n - length (reverse (take_while (is_no_newline_at ns) (back_under o))) ≡ 0 = omega (arith, length_line o, nothing_after (is_newline_at ns) (back_under o) found, length_back o said) in
      sym (ap (λ k. drop k (row_under o)) zero_left)

  -- without a line's end before the node its line begins where the row does
  pub whole_line : (c : ℕ) → parent_at ns n ≡ Some c → find (is_newline_at ns) (siblings_before ns n) ≡ None → children_at ns c ≡ row_from_line ns n
  whole_line c said found =
      ap (λ o. row_under o) (sym said) ∙ whole_by (parent_at ns n) refl found

  pub no_line : parent_at ns n ≡ None → siblings_after ns n ≡ row_from_line ns n
  no_line said =
      ap (λ o. drop (place_at ns n + 1) (row_under o)) said
      ∙ drop_all (place_at ns n + 1) [] (omega arith)
      ∙ sym (ap (λ o. drop (place_at ns n - length (reverse (take_while (is_no_newline_at ns) (back_under o)))) (row_under o)) said ∙ drop_all (place_at ns n - length (reverse (take_while (is_no_newline_at ns) (back_under None)))) [] (omega arith))
