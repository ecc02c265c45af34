-- A row walked along the links, forwards and backwards.
use Rattle.std.proofs.Common.{◌≡◌, ℕ, zero, suc, ◌+◌, ◌<◌, ◌≤◌, List, [], ◌∷◌, length, get_or, take, drop, reverse, Option, None, Some, slice_get, length-drop, length-take, refl, sym, ap, ◌∙◌, arith}
use Rattle.std.proofs.lemmas.Option.{slice_get-get_or, slice_get_past}
use Rattle.std.proofs.lemmas.List.{drop_all, length-reverse, reverse-append, take_all}
use Rattle.jsonc_tree.specs.Tree.{Node, IsTree, children_at, parent_at, place_at}
use Rattle.jsonc_tree.specs.Order.{with_parent}
use Rattle.jsonc_tree.specs.Siblings.{before, first, siblings_after, siblings_before}
use Rattle.jsonc_tree.specs.Stored.{link_at, nodes_of, chain, chain_back, Stands, StandsBefore, IsStored, LinkedNode}
use Rattle.jsonc_tree.proofs.AgreeingLinks.{agrees, chain_from, row_short}
use Rattle.jsonc_tree.proofs.Gaps.{at_there}
use Rattle.jsonc_tree.proofs.Moves.{next_is, previous_is}
use Rattle.jsonc_tree.proofs.Stretches.{take_next}
use Rattle.jsonc_tree.proofs.LinkSteps.{chain_none, previous_step, last_step}

none_taken : (k : ℕ) → take {A = ℕ} k [] ≡ []
none_taken k = take_all k [] (omega arith)

none_dropped : (k : ℕ) → drop {A = ℕ} k [] ≡ []
none_dropped k = drop_all k [] (omega arith)

pub first_drop : (k : ℕ) (xs : List ℕ) → slice_get (drop k xs) 0 ≡ slice_get xs k
first_drop k [] = ap first (none_dropped k)
first_drop zero (x ∷ xs) = refl
first_drop (suc k) (x ∷ xs) = first_drop k xs

-- one more of a row, backwards
back_more : (xs : List ℕ) (k : ℕ) → k < length xs → reverse (take (suc k) xs) ≡ get_or xs k 0 ∷ reverse (take k xs)
back_more xs k h =
    let one : suc k ≡ k + 1 = omega arith in
    ap (λ m. reverse (take m xs)) one ∙ ap (λ (l : List ℕ). reverse l) (take_next xs k h) ∙ reverse-append (take k xs) (get_or xs k 0 ∷ [])

first_back : (xs : List ℕ) (k : ℕ) → k ≤ length xs → before xs k ≡ first (reverse (take k xs))
first_back xs zero h = refl
first_back xs (suc k) h = slice_get-get_or xs k 0 (omega arith) ∙ sym (ap first (back_more xs k (omega arith)))

-- no row is longer than there are nodes
module _ (ns : List Node) (t : IsTree ns) (n : ℕ) where
  under_short : (o : Option ℕ) → length (with_parent o (children_at ns)) ≤ length ns
  under_short None = omega arith
  under_short (Some p) = row_short ns t p

  pub after_short : length (siblings_after ns n) ≤ length ns
  after_short = omega (arith, length-drop (place_at ns n + 1) (with_parent (parent_at ns n) (children_at ns)), under_short (parent_at ns n))

  pub before_short : length (siblings_before ns n) ≤ length ns
  before_short =
      let row : List ℕ = with_parent (parent_at ns n) (children_at ns) in
      omega (arith, length-reverse (take (place_at ns n) row), length-take (place_at ns n) row, under_short (parent_at ns n))

module _ (ls : List LinkedNode) (ok : IsStored ls) where
  back_none : (steps : ℕ) → chain_back steps ls None ≡ []
  back_none zero = refl
  back_none (suc steps) = refl

  -- the links back from a gap lead over what stands before it
  back_from : (steps c k : ℕ) → k ≤ length (children_at (nodes_of ls) c) → k ≤ steps → chain_back steps ls (before (children_at (nodes_of ls) c) k) ≡ reverse (take k (children_at (nodes_of ls) c))
  back_from steps c zero h enough = back_none steps
  back_from zero c (suc k) h enough = absurd (omega arith)
  back_from (suc steps) c (suc k) h enough =
      let row : List ℕ = children_at (nodes_of ls) c in
      let is = slice_get-get_or row k 0 (omega arith) in
      ap (chain_back (suc steps) ls) is
      ∙ ap (λ o. get_or row k 0 ∷ chain_back steps ls o) (previous_step ls ok c k (get_or row k 0) is)
      ∙ ap (λ l. get_or row k 0 ∷ l) (back_from steps c k (omega arith) (omega arith))
      ∙ sym (back_more row k (omega arith))

  back_of : (c k : ℕ) → k ≤ length (children_at (nodes_of ls) c) → chain_back (length ls) ls (before (children_at (nodes_of ls) c) k) ≡ reverse (take k (children_at (nodes_of ls) c))
  back_of c k h = back_from (length ls) c k h (omega (arith, row_short (nodes_of ls) ok.tree c, (agrees ls ok).len))

  -- one step of a walk back
  pub back_over : (o : Option ℕ) → o ≡ None → chain_back (length ls) ls o ≡ []
  back_over o e = ap (chain_back (length ls) ls) e ∙ back_none (length ls)

  pub back_step : (n : ℕ) → StandsBefore ls (Some n) → (chain_back (length ls) ls (Some n) ≡ n ∷ chain_back (length ls) ls (link_at ls n).previous) × StandsBefore ls (link_at ls n).previous × (n < length (nodes_of ls))
  back_step n (c, zero, h, e) = let wrong : Some n ≡ None = e in cc
  back_step n (c, suc k, h, e) =
      let row : List ℕ = children_at (nodes_of ls) c in
      let is = slice_get-get_or row k 0 (omega arith) in
      let same : Some (get_or row k 0) ≡ Some n = sym is ∙ sym e in
      let here : get_or row k 0 ≡ n = cc in
      let goes_on : (link_at ls n).previous ≡ before row k = previous_step ls ok c k n (sym e) in (
        ap (chain_back (length ls) ls) e
            ∙ back_of c (suc k) h
            ∙ back_more row k (omega arith)
            ∙ ap (λ m. m ∷ reverse (take k row)) here
            ∙ ap (λ l. n ∷ l) (sym (ap (chain_back (length ls) ls) goes_on ∙ back_of c k (omega arith))),
        (c, k, omega arith, goes_on),
        at_there (nodes_of ls) ok.tree c k n (sym e),
      )

  -- where a walk back over all children begins
  pub back_last : (c : ℕ) (o : Option ℕ) → o ≡ (link_at ls c).last → (chain_back (length ls) ls o ≡ reverse (children_at (nodes_of ls) c)) × StandsBefore ls o
  back_last c o e =
      let row : List ℕ = children_at (nodes_of ls) c in
      let is = e ∙ last_step ls ok c in (
        ap (chain_back (length ls) ls) is ∙ back_of c (length row) (omega arith) ∙ ap (λ (l : List ℕ). reverse l) (take_all (length row) row (omega arith)),
        (c, length row, omega arith, is),
      )

  pub last_first : (c : ℕ) → (link_at ls c).last ≡ first (reverse (children_at (nodes_of ls) c))
  last_first c =
      let row : List ℕ = children_at (nodes_of ls) c in
      last_step ls ok c ∙ first_back row (length row) (omega arith) ∙ ap (λ (l : List ℕ). first (reverse l)) (take_all (length row) row (omega arith))

  before_by : (n : ℕ) (o p : Option ℕ) → parent_at (nodes_of ls) n ≡ p → o ≡ (link_at ls n).previous → (chain_back (length ls) ls o ≡ reverse (take (place_at (nodes_of ls) n) (with_parent p (children_at (nodes_of ls))))) × StandsBefore ls o × (o ≡ first (reverse (take (place_at (nodes_of ls) n) (with_parent p (children_at (nodes_of ls))))))
  before_by n o None said e =
      let is : o ≡ None = e ∙ (ok.linked.alone n said).1 in
      let none = none_taken (place_at (nodes_of ls) n) in (
        back_over o is ∙ sym (ap (λ (l : List ℕ). reverse l) none),
        (n, 0, omega arith, is),
        is ∙ sym (ap (λ (l : List ℕ). first (reverse l)) none),
      )
  before_by n o (Some p) said e =
      let is = e ∙ previous_is ls ok n p said in
      let inn = ok.tree.within n p said in (
        ap (chain_back (length ls) ls) is ∙ back_of p (place_at (nodes_of ls) n) (omega arith),
        (p, place_at (nodes_of ls) n, omega arith, is),
        is ∙ first_back (children_at (nodes_of ls) p) (place_at (nodes_of ls) n) (omega arith),
      )

  -- the siblings before a node
  pub before_node : (n : ℕ) (o : Option ℕ) → o ≡ (link_at ls n).previous → (chain_back (length ls) ls o ≡ siblings_before (nodes_of ls) n) × StandsBefore ls o × (o ≡ first (siblings_before (nodes_of ls) n))
  before_node n o e = before_by n o (parent_at (nodes_of ls) n) refl e

  after_by : (n : ℕ) (o p : Option ℕ) → parent_at (nodes_of ls) n ≡ p → o ≡ (link_at ls n).next → (chain (length ls) ls o ≡ drop (place_at (nodes_of ls) n + 1) (with_parent p (children_at (nodes_of ls)))) × Stands ls o × (o ≡ first (drop (place_at (nodes_of ls) n + 1) (with_parent p (children_at (nodes_of ls)))))
  after_by n o None said e =
      let is : o ≡ None = e ∙ (ok.linked.alone n said).0 in
      let none = none_dropped (place_at (nodes_of ls) n + 1) in
      let row : List ℕ = children_at (nodes_of ls) n in (
        ap (chain (length ls) ls) is ∙ chain_none ls ok (length ls) ∙ sym none,
        (n, length row, omega arith, is ∙ sym (slice_get_past row (length row) (omega arith))),
        is ∙ sym (ap first none),
      )
  after_by n o (Some p) said e =
      let row : List ℕ = children_at (nodes_of ls) p in
      let one : suc (place_at (nodes_of ls) n) ≡ place_at (nodes_of ls) n + 1 = omega arith in
      let is : o ≡ slice_get row (place_at (nodes_of ls) n + 1) = e ∙ next_is ls ok n p said ∙ ap (slice_get row) one in
      let inn = ok.tree.within n p said in
      let same = agrees ls ok in (
        ap (chain (length ls) ls) is ∙ chain_from ls (nodes_of ls) ok.tree same (length ls) p (place_at (nodes_of ls) n + 1) (omega arith) (omega (arith, row_short (nodes_of ls) ok.tree p, same.len)),
        (p, place_at (nodes_of ls) n + 1, omega arith, is),
        is ∙ sym (first_drop (place_at (nodes_of ls) n + 1) row),
      )

  -- the siblings after a node
  pub after_node : (n : ℕ) (o : Option ℕ) → o ≡ (link_at ls n).next → (chain (length ls) ls o ≡ siblings_after (nodes_of ls) n) × Stands ls o × (o ≡ first (siblings_after (nodes_of ls) n))
  after_node n o e = after_by n o (parent_at (nodes_of ls) n) refl e
