-- Where a change keeps containers, their parents and their order among children, a walk comes to the same arrays and objects.
use Rattle.std.proofs.Common.{◌≡◌, ◌∙◌, sym, ap, refl, ℕ, zero, suc, ◌+◌, ◌<◌, ◌≤◌, ◌⊎◌, inl, inr, Bool, true, false, cond, eqb, List, [], ◌∷◌, ◌++◌, length, drop, filter, Some, arith}
use Rattle.std.specs.List.{flat_map}
use Rattle.std.proofs.lemmas.Bool.{cases_Bool, cases_lt, false≢true, true_from_ne_false, eqb-true}
use Rattle.std.proofs.lemmas.List.{get_or_past}
use Rattle.std.proofs.lemmas.List.Elements.{filter-append}
use Rattle.jsonc_tree.specs.Content.{Content, is_container}
use Rattle.jsonc_tree.specs.Order.{below, in_order, following, rest_at, with_parent}
use Rattle.jsonc_tree.specs.Tree.{Node, nowhere, content_at, parent_at, children_at, place_among, place_under, is_container_at, IsTree, IsOver, Rooted, top, under}
use Rattle.jsonc_tree.proofs.Order.{following_is, following_none, line_of, line_long, parent_there, steady}
use Rattle.jsonc_layout.specs.lines.Kinds.{is_array_or_object}
use Rattle.jsonc_edit.specs.commas.InTurn.{holds_at}

-- what a change keeps that such a walk rests on: there may be one more node, a leaf, and leaves may come and go
pub record KeepsContainers (old new : List Node) : Type 0 where
  pub long : (length new ≡ length old) ⊎ (length new ≡ suc (length old))
  pub content : (n : ℕ) → n < length old → content_at new n ≡ content_at old n
  pub made : (n : ℕ) → length old ≤ n → is_container_at new n ≡ false
  pub parent : (n : ℕ) → n < length old → is_container_at old n ≡ true → parent_at new n ≡ parent_at old n
  pub rows : (n : ℕ) → filter (is_container_at old) (children_at new n) ≡ filter (is_container_at old) (children_at old n)

pub no_holder : (c : Content) → is_container c ≡ false → is_array_or_object c ≡ false
no_holder Content.root e = refl
no_holder Content.object e = cc
no_holder Content.array e = cc
no_holder c e = refl

-- lists and tests
module _ (p : ℕ → Bool) where
  pub filter-flat_map : (f : ℕ → List ℕ) (xs : List ℕ) → filter p (flat_map f xs) ≡ flat_map (λ x. filter p (f x)) xs
  filter-flat_map f [] = refl
  filter-flat_map f (x ∷ xs) = filter-append p (f x) (flat_map f xs) ∙ ap (λ l. filter p (f x) ++ l) (filter-flat_map f xs)

  -- what gives nothing may be left out
  flat_map_kept : (g : ℕ → List ℕ) → ((x : ℕ) → p x ≡ false → g x ≡ []) → (xs : List ℕ) → flat_map g xs ≡ flat_map g (filter p xs)
  flat_map_kept g h [] = refl
  flat_map_kept g h (x ∷ xs) =
      elim (cases_Bool (p x)) [
        | inl e ↦ ap (λ l. g x ++ l) (flat_map_kept g h xs) ∙ ap (λ b. flat_map g (cond b (x ∷ filter p xs) (filter p xs))) (sym e)
        | inr e ↦ ap (λ l. l ++ flat_map g xs) (h x e) ∙ flat_map_kept g h xs ∙ ap (λ b. flat_map g (cond b (x ∷ filter p xs) (filter p xs))) (sym e)
      ]

  flat_map_alike : (f g : ℕ → List ℕ) → ((x : ℕ) → p x ≡ true → f x ≡ g x) → (xs : List ℕ) → flat_map f (filter p xs) ≡ flat_map g (filter p xs)
  flat_map_alike f g h [] = refl
  flat_map_alike f g h (x ∷ xs) =
      elim (cases_Bool (p x)) [
        | inl e ↦
            let here : flat_map f (x ∷ filter p xs) ≡ flat_map g (x ∷ filter p xs) = ap (λ l. l ++ flat_map f (filter p xs)) (h x e) ∙ ap (λ l. g x ++ l) (flat_map_alike f g h xs) in
            ap (λ b. flat_map f (cond b (x ∷ filter p xs) (filter p xs))) e ∙ here ∙ ap (λ b. flat_map g (cond b (x ∷ filter p xs) (filter p xs))) (sym e)
        | inr e ↦
            ap (λ b. flat_map f (cond b (x ∷ filter p xs) (filter p xs))) e ∙ flat_map_alike f g h xs ∙ ap (λ b. flat_map g (cond b (x ∷ filter p xs) (filter p xs))) (sym e)
      ]

  -- what comes after a number in a list
  abbrev later : ℕ → List ℕ → List ℕ
  later n xs = drop (place_among n xs + 1) xs

  later_here : (n x : ℕ) (xs : List ℕ) → eqb n x ≡ true → later n (x ∷ xs) ≡ xs
  later_here n x xs e = ap (λ b. drop (cond b 0 (suc (place_among n xs)) + 1) (x ∷ xs)) e

  later_there : (n x : ℕ) (xs : List ℕ) → eqb n x ≡ false → later n (x ∷ xs) ≡ later n xs
  later_there n x xs e =
      let one : suc (place_among n xs) + 1 ≡ suc (place_among n xs + 1) = omega arith in
      ap (λ b. drop (cond b 0 (suc (place_among n xs)) + 1) (x ∷ xs)) e ∙ ap (λ k. drop k (x ∷ xs)) one

  filter_later : (n : ℕ) → p n ≡ true → (xs : List ℕ) → filter p (later n xs) ≡ later n (filter p xs)
  filter_later n h [] = refl
  filter_later n h (x ∷ xs) =
      elim (cases_Bool (eqb n x)) [
        | inl e ↦
            let it : p x ≡ true = ap p (sym (eqb-true n x e)) ∙ h in
            ap (filter p) (later_here n x xs e) ∙ sym (later_here n x (filter p xs) e) ∙ ap (λ b. later n (cond b (x ∷ filter p xs) (filter p xs))) (sym it)
        | inr e ↦
            let rest : filter p (later n (x ∷ xs)) ≡ later n (filter p xs) = ap (filter p) (later_there n x xs e) ∙ filter_later n h xs in
            elim (cases_Bool (p x)) [
              | inl t ↦ rest ∙ sym (later_there n x (filter p xs) e) ∙ ap (λ b. later n (cond b (x ∷ filter p xs) (filter p xs))) (sym t)
              | inr t ↦ rest ∙ ap (λ b. later n (cond b (x ∷ filter p xs) (filter p xs))) (sym t)
            ]
      ]

flat_map_each : (f g : ℕ → List ℕ) → ((x : ℕ) → f x ≡ g x) → (xs : List ℕ) → flat_map f xs ≡ flat_map g xs
flat_map_each f g h [] = refl
flat_map_each f g h (x ∷ xs) = ap (λ l. l ++ flat_map f xs) (h x) ∙ ap (λ l. g x ++ l) (flat_map_each f g h xs)

-- what no leaf passes, nothing below a leaf does
pub leaf_found : (ns : List Node) → IsTree ns → (h : ℕ → Bool) → ((n : ℕ) → is_container_at ns n ≡ false → h n ≡ false) → (k n : ℕ) → is_container_at ns n ≡ false → filter h (below k ns n) ≡ []
leaf_found ns tree h none zero n e = refl
leaf_found ns tree h none (suc k) n e =
    ap (λ (l : List ℕ). filter h (n ∷ flat_map (below k ns) l)) (tree.leaf n e) ∙ ap (λ b. cond {A = List ℕ} b (n ∷ []) []) (none n e)

-- a node with a child is a container
pub has_child : (ns : List Node) → IsTree ns → (n c : ℕ) → parent_at ns n ≡ Some c → is_container_at ns c ≡ true
has_child ns tree n c said = true_from_ne_false (is_container_at ns c) (λ e. absurd (omega (arith, tree.within n c said, ap length (tree.leaf c e))))

module _ (old new : List Node) (tree : IsTree old) (after : IsTree new) (k : KeepsContainers old new) where
  none_past : (n : ℕ) → length old ≤ n → is_container_at old n ≡ false
  none_past n h = ap (λ (x : Node). is_container x.content) (get_or_past old n nowhere h)

  container_same : (n : ℕ) → is_container_at new n ≡ is_container_at old n
  container_same n =
      elim (cases_lt n (length old)) [
        | inl h ↦ ap is_container (k.content n h)
        | inr h ↦ k.made n h ∙ sym (none_past n h)
      ]

  pub holds_same : (n : ℕ) → holds_at new n ≡ holds_at old n
  holds_same n =
      elim (cases_lt n (length old)) [
        | inl h ↦ ap is_array_or_object (k.content n h)
        | inr h ↦ no_holder (content_at new n) (k.made n h) ∙ sym (no_holder (content_at old n) (none_past n h))
      ]

  pub container_there : (n : ℕ) → is_container_at old n ≡ true → n < length old
  container_there n e =
      elim (cases_lt n (length old)) [
        | inl h ↦ h
        | inr h ↦ absurd (false≢true (sym (none_past n h) ∙ e))
      ]

  -- and what stands above one
  pub over_same : (x n : ℕ) → is_container_at old n ≡ true → IsOver old x n → IsOver new x n
  over_same x _ e IsOver.itself = IsOver.itself
  over_same x n e (IsOver.above {c = p} said rest) = IsOver.above (k.parent n (container_there n e) e ∙ said) (over_same x p (has_child old tree n p said) rest)

  -- and nothing else does
  pub over_back : (x n : ℕ) → is_container_at old n ≡ true → IsOver new x n → IsOver old x n
  over_back x _ e IsOver.itself = IsOver.itself
  over_back x n e (IsOver.above {c = p} said rest) =
      let was : parent_at old n ≡ Some p = sym (k.parent n (container_there n e) e) ∙ said in
      IsOver.above was (over_back x p (has_child old tree n p was) rest)

-- what is found below a node, and behind one, by tests that no leaf passes, and that agree
module _ (old new : List Node) (tree : IsTree old) (after : IsTree new) (k : KeepsContainers old new) (hn ho : ℕ → Bool) (ln : (n : ℕ) → is_container_at new n ≡ false → hn n ≡ false)
    (lo : (n : ℕ) → is_container_at old n ≡ false → ho n ≡ false) (alike : (n : ℕ) → hn n ≡ ho n) where
  -- the same are found in as many levels below a node
  found_same : (levels n : ℕ) → filter hn (below levels new n) ≡ filter ho (below levels old n)
  found_same zero n = refl
  found_same (suc levels) n =
      let f : ℕ → List ℕ = λ x. filter ho (below levels old x) in
      let row : filter hn (flat_map (below levels new) (children_at new n)) ≡ filter ho (flat_map (below levels old) (children_at old n)) =
      filter-flat_map hn (below levels new) (children_at new n)
      ∙ flat_map_each (λ x. filter hn (below levels new x)) f (found_same levels) (children_at new n)
      ∙ flat_map_kept (is_container_at old) f (leaf_found old tree ho lo levels) (children_at new n)
      ∙ ap (flat_map f) (k.rows n)
      ∙ sym (flat_map_kept (is_container_at old) f (leaf_found old tree ho lo levels) (children_at old n))
      ∙ sym (filter-flat_map ho (below levels old) (children_at old n)) in
      ap (λ b. cond b (n ∷ filter hn (flat_map (below levels new) (children_at new n))) (filter hn (flat_map (below levels new) (children_at new n)))) (alike n)
      ∙ ap (λ l. cond (ho n) (n ∷ l) l) row

  -- one level more finds no more
  enough : (n : ℕ) → n < length old → below (length new) old n ≡ below (length old) old n
  enough n h =
      elim k.long [
        | inl e ↦ ap (λ levels. below levels old n) e
        | inr e ↦
            let line = line_of old n (tree.rooted n) in
            ap (λ levels. below levels old n) e ∙ sym (steady old tree (length old) n line.0 h line.1 (omega (arith, line_long old tree n line.0 line.1)))
      ]

  pub found_in_order : (n : ℕ) → n < length old → filter hn (in_order new n) ≡ filter ho (in_order old n)
  unfolding in_order
  found_in_order n h = found_same (length new) n ∙ ap (filter ho) (enough n h)

  leaf_in_order : (n : ℕ) → is_container_at old n ≡ false → filter hn (in_order new n) ≡ []
  unfolding in_order
  leaf_in_order n e = leaf_found new after hn ln (length new) n (container_same old new tree after k n ∙ e)

  leaf_in_old : (n : ℕ) → is_container_at old n ≡ false → filter ho (in_order old n) ≡ []
  unfolding in_order
  leaf_in_old n e = leaf_found old tree ho lo (length old) n e

  -- the rows behind a container
  abbrev behind : List Node → ℕ → ℕ → List ℕ
  behind ns n p = drop (place_under ns n (Some p) + 1) (children_at ns p)

  row_same : (n p : ℕ) → is_container_at old n ≡ true → filter hn (flat_map (in_order new) (behind new n p)) ≡ filter ho (flat_map (in_order old) (behind old n p))
  row_same n p e =
      let q : ℕ → Bool = is_container_at old in
      let f : ℕ → List ℕ = λ x. filter hn (in_order new x) in
      let g : ℕ → List ℕ = λ x. filter ho (in_order old x) in
      let rows : filter q (behind new n p) ≡ filter q (behind old n p) =
      filter_later q n e (children_at new p) ∙ ap (later q n) (k.rows p) ∙ sym (filter_later q n e (children_at old p)) in
      filter-flat_map hn (in_order new) (behind new n p)
      ∙ flat_map_kept q f leaf_in_order (behind new n p)
      ∙ flat_map_alike q f g (λ x t. found_in_order x (container_there old new tree after k x t)) (behind new n p)
      ∙ ap (flat_map g) rows
      ∙ sym (flat_map_kept q g leaf_in_old (behind old n p))
      ∙ sym (filter-flat_map ho (in_order old) (behind old n p))

  abbrev goes_on : List Node → ℕ → ℕ → ℕ → List ℕ
  goes_on ns end n p = flat_map (in_order ns) (behind ns n p) ++ following ns end p

  cond_same : (b : Bool) (xs ys : List ℕ) → filter hn xs ≡ filter ho ys → filter hn (cond b [] xs) ≡ filter ho (cond b [] ys)
  cond_same true xs ys e = refl
  cond_same false xs ys e = e

  follows_under : (ns : List Node) → IsTree ns → (end n p : ℕ) → parent_at ns n ≡ Some p → following ns end n ≡ cond (eqb n end) [] (goes_on ns end n p)
  follows_under ns t end n p said =
      following_is ns t end n (parent_there ns t n p said).0
      ∙ ap (λ o. cond (eqb n end) [] (with_parent o (λ q. flat_map (in_order ns) (drop (place_under ns n o + 1) (children_at ns q)) ++ following ns end q))) said

  following_same : (end n : ℕ) → Rooted old n → is_container_at old n ≡ true → filter hn (following new end n) ≡ filter ho (following old end n)
  following_same end n (top said) e =
      let there : n < length old = container_there old new tree after k n e in
      let there_new : n < length new = elim k.long [ inl l ↦ omega (arith, l) | inr l ↦ omega (arith, l) ] in
      ap (filter hn) (following_none new after end n there_new (k.parent n there e ∙ said)) ∙ sym (ap (filter ho) (following_none old tree end n there said))
  following_same end n (under {c = p} said rest) e =
      let now : parent_at new n ≡ Some p = k.parent n (container_there old new tree after k n e) e ∙ said in
      let more : filter hn (goes_on new end n p) ≡ filter ho (goes_on old end n p) =
      filter-append hn (flat_map (in_order new) (behind new n p)) (following new end p)
      ∙ ap (λ l. l ++ filter hn (following new end p)) (row_same n p e)
      ∙ ap (λ l. filter ho (flat_map (in_order old) (behind old n p)) ++ l) (following_same end p rest (has_child old tree n p said))
      ∙ sym (filter-append ho (flat_map (in_order old) (behind old n p)) (following old end p)) in
      ap (filter hn) (follows_under new after end n p now)
      ∙ cond_same (eqb n end) (goes_on new end n p) (goes_on old end n p) more
      ∙ sym (ap (filter ho) (follows_under old tree end n p said))

  -- what is still to come from a container on
  pub rest_same : (end n : ℕ) → is_container_at old n ≡ true → filter hn (rest_at new end (Some n)) ≡ filter ho (rest_at old end (Some n))
  rest_same end n e =
      filter-append hn (in_order new n) (following new end n)
      ∙ ap (λ l. l ++ filter hn (following new end n)) (found_in_order n (container_there old new tree after k n e))
      ∙ ap (λ l. filter ho (in_order old n) ++ l) (following_same end n (tree.rooted n) e)
      ∙ sym (filter-append ho (in_order old n) (following old end n))
