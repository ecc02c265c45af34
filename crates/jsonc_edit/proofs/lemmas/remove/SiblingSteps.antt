-- The siblings of a node, one after the other, and what leaves with it.
use Rattle.std.proofs.Common.{◌≡◌, ℕ, zero, suc, ◌+◌, ◌<◌, Bool, true, false, cond, List, [], ◌∷◌, length, drop, Option, Some, None, slice_get, refl, sym, ap, subst, ◌∙◌, arith}
use Rattle.std.proofs.lemmas.List.{drop_all}
use Rattle.std.proofs.lemmas.Option.{slice_get_past}
use Rattle.jsonc_tree.specs.Order.{with_parent}
use Rattle.jsonc_tree.specs.Siblings.{first, siblings_after}
use Rattle.jsonc_tree.specs.Tree.{Node, content_at, parent_at, children_at, place_at, IsTree}
use Rattle.jsonc_tree.proofs.Gaps.{at_named, at_placed, at_there}
use Rattle.jsonc_tree.proofs.LinkedRows.{first_drop}
use Rattle.jsonc_layout.specs.nodes.Kinds.{is_inline_trivia_at, is_newline_at, is_comma}
use Rattle.jsonc_layout.specs.nodes.Siblings.{IsThere, AreThere}
use Rattle.jsonc_layout.proofs.lemmas.nodes.InTree.{after_there, find_there}
use Rattle.jsonc_layout.specs.lines.Siblings.{is_no_trivia_at, if_comma, after_trivia_at, trailing_comma_at}
use Rattle.jsonc_edit.specs.remove.Leaving.{line_end, line_end_at, outermost, trails}

-- what stands at a place of a row, and then the rest
drop_at : (xs : List ℕ) (k m : ℕ) → slice_get xs k ≡ Some m → drop k xs ≡ m ∷ drop (suc k) xs
drop_at [] k m e = absurd (let wrong : None ≡ Some m = sym (slice_get_past [] k (omega arith)) ∙ e in cc)
drop_at (x ∷ xs) zero m e = let same : x ≡ m = (let both : Some x ≡ Some m = e in cc) in ap (λ y. y ∷ xs) same
drop_at (x ∷ xs) (suc k) m e = drop_at xs k m e

-- nothing stands behind a node with no next sibling
pub after_none : (xs : List ℕ) → first xs ≡ None → xs ≡ []
after_none [] e = refl
after_none (x ∷ xs) e = absurd (let wrong : Some x ≡ None = e in cc)

none_left : (k : ℕ) → drop {A = ℕ} k [] ≡ []
none_left k = drop_all k [] (omega arith)

module _ (ns : List Node) (tree : IsTree ns) where
  step_by : (n m : ℕ) (o : Option ℕ) → parent_at ns n ≡ o → first (drop (place_at ns n + 1) (with_parent o (children_at ns))) ≡ Some m → drop (place_at ns n + 1) (with_parent o (children_at ns)) ≡ m ∷ siblings_after ns m
  step_by n m None said e = absurd (let wrong : None ≡ Some m = sym (ap first (none_left (place_at ns n + 1))) ∙ e in cc)
  step_by n m (Some c) said e =
      let row : List ℕ = children_at ns c in
      let k : ℕ = place_at ns n + 1 in
      let is : slice_get row k ≡ Some m = sym (first_drop k row) ∙ e in
      let one : suc k ≡ place_at ns m + 1 = omega (arith, at_placed ns tree c k m is) in
      drop_at row k m is
      ∙ ap (λ j. m ∷ drop j row) one
      ∙ ap (λ o. m ∷ drop (place_at ns m + 1) (with_parent o (children_at ns))) (sym (at_named ns tree c k m is))

  -- the next sibling of a node, and then the siblings after that
  pub after_step : (n m : ℕ) → first (siblings_after ns n) ≡ Some m → siblings_after ns n ≡ m ∷ siblings_after ns m
  after_step n m e = step_by n m (parent_at ns n) refl e

  there_by : (n m : ℕ) (o : Option ℕ) → first (drop (place_at ns n + 1) (with_parent o (children_at ns))) ≡ Some m → m < length ns
  there_by n m None e = absurd (let wrong : None ≡ Some m = sym (ap first (none_left (place_at ns n + 1))) ∙ e in cc)
  there_by n m (Some c) e = at_there ns tree c (place_at ns n + 1) m (sym (first_drop (place_at ns n + 1) (children_at ns c)) ∙ e)

  pub next_there : (n m : ℕ) → first (siblings_after ns n) ≡ Some m → m < length ns
  next_there n m e = there_by n m (parent_at ns n) e

  comma_there : (o : Option ℕ) → IsThere ns o → IsThere ns (if_comma ns o)
  comma_there None h = tt
  comma_there (Some m) h = by (is_comma (content_at ns m))
    where
      by : (b : Bool) → IsThere ns (cond b (Some m) None)
      by true = h
      by false = tt

  pub trailing_there : (n : ℕ) → IsThere ns (trailing_comma_at ns n)
  trailing_there n = comma_there (after_trivia_at ns n) (find_there ns (is_no_trivia_at ns) (siblings_after ns n) (after_there ns tree n))

  -- where the line of a node ends, by what stands behind it
  line_by : (n m : ℕ) → first (siblings_after ns n) ≡ Some m → (line ended : Bool) → is_newline_at ns m ≡ line → trails ns m (siblings_after ns m) ≡ ended → line_end_at ns n ≡ cond line m (cond ended (line_end_at ns m) n)
  line_by n m e line ended h g =
      ap (line_end ns n) (after_step n m e) ∙ ap (λ b. cond b m (cond (trails ns m (siblings_after ns m)) (line_end_at ns m) n)) h ∙ ap (λ b. cond line m (cond b (line_end_at ns m) n)) g

  pub line_newline : (n m : ℕ) → first (siblings_after ns n) ≡ Some m → is_newline_at ns m ≡ true → line_end_at ns n ≡ m
  line_newline n m e h = line_by n m e true (trails ns m (siblings_after ns m)) h refl

  pub line_stops : (n m : ℕ) → first (siblings_after ns n) ≡ Some m → is_newline_at ns m ≡ false → trails ns m (siblings_after ns m) ≡ false → line_end_at ns n ≡ n
  line_stops n m e h g = line_by n m e false false h g

  pub line_goes_on : (n m : ℕ) → first (siblings_after ns n) ≡ Some m → is_newline_at ns m ≡ false → trails ns m (siblings_after ns m) ≡ true → line_end_at ns n ≡ line_end_at ns m
  line_goes_on n m e h g = line_by n m e false true h g

  pub after_fewer : (n m : ℕ) → first (siblings_after ns n) ≡ Some m → length (siblings_after ns m) < length (siblings_after ns n)
  after_fewer n m e = omega (arith, ap length (after_step n m e))

  pub line_over : (n : ℕ) → first (siblings_after ns n) ≡ None → line_end_at ns n ≡ n
  line_over n e = ap (line_end ns n) (after_none (siblings_after ns n) e)

-- the farthest of whitespace and comments, a step
pub outermost_step : (ns : List Node) (n m : ℕ) (s rest : List ℕ) → s ≡ m ∷ rest → is_inline_trivia_at ns m ≡ true → outermost ns n s ≡ outermost ns m rest
outermost_step ns n m s rest e h = ap (outermost ns n) e ∙ ap (λ b. cond b (outermost ns m rest) n) h

pub head_there : (ns : List Node) (s : List ℕ) (m : ℕ) (rest : List ℕ) → s ≡ m ∷ rest → AreThere ns s → m < length ns
head_there ns s m rest e h = subst (AreThere ns) e h 0 0 (omega arith)
