-- The nodes below a node, level after level and in the order of the document.
use Rattle.std.proofs.Common.{◌≡◌, ◌∙◌, refl, sym, ap, arith, ℕ, zero, suc, ◌+◌, ◌-◌, ◌<◌, ◌≤◌, Bool, true, false, cond, eqb, eq-eqb, inl, inr, List, [], ◌∷◌, ◌++◌, length, get_or, drop, filter, Option, Some, None, append_assoc}
use Rattle.std.specs.List.{All, find, flat_map}
use Rattle.std.specs.Option.{is_some, option_or}
use Rattle.std.proofs.lemmas.Bool.{cases_lt, ne_eqb}
use Rattle.std.proofs.lemmas.Grind.{flat_map-append}
use Rattle.std.proofs.lemmas.List.{append-nil}
use Rattle.std.proofs.lemmas.List.Elements.{filter-append, All-append, All-cons, All-drop, All-from_get_or, All-head, All-nil, All-tail, All-weaker}
use Rattle.std.proofs.lemmas.List.Folds.{find-append}
use Rattle.jsonc_tree.specs.Order.{below, in_order, upward}
use Rattle.jsonc_tree.specs.Tree.{Node, children_at, parent_at, place_at, IsOver, IsTree, above, itself}
use Rattle.jsonc_tree.proofs.Order.{flat_map_same, in_order_is, parent_there, upward_is}
use Rattle.jsonc_layout.specs.lines.Breadth.{level_below, levels}
use Rattle.jsonc_layout.specs.lines.Walk.{depth_at}

all_flat : (P : ℕ → Type 0) (f : ℕ → List ℕ) (xs : List ℕ) → All (λ x. All P (f x)) xs → All P (flat_map f xs)
all_flat P f [] h = All-nil P
all_flat P f (x ∷ xs) h = All-append P (f x) (flat_map f xs) (All-head (λ y. All P (f y)) x xs h) (all_flat P f xs (All-tail (λ y. All P (f y)) x xs h))

filter_flat : (p : ℕ → Bool) (f : ℕ → List ℕ) (xs : List ℕ) → filter p (flat_map f xs) ≡ flat_map (λ x. filter p (f x)) xs
filter_flat p f [] = refl
filter_flat p f (x ∷ xs) = filter-append p (f x) (flat_map f xs) ∙ ap (λ l. filter p (f x) ++ l) (filter_flat p f xs)

-- nodes by their depth
module _ (depth : ℕ → ℕ) where
  IsDeep : ℕ → ℕ → Type 0
  IsDeep d m = d ≤ depth m

  -- those of a depth, and those of each smaller one in turn
  abbrev pub at_depth : ℕ → List ℕ → List ℕ
  at_depth d xs = filter (λ m. eqb (depth m) d) xs

  abbrev pub layers : ℕ → List ℕ → List ℕ
  layers zero xs = []
  layers (suc d) xs = layers d xs ++ at_depth d xs

  pub none_at : (d : ℕ) (xs : List ℕ) → All (λ m. suc d ≤ depth m) xs → at_depth d xs ≡ []
  none_at d [] h = refl
  none_at d (x ∷ xs) h =
      let deep : suc d ≤ depth x = All-head (λ m. suc d ≤ depth m) x xs h in
      ap (λ b. cond b (x ∷ at_depth d xs) (at_depth d xs)) (ne_eqb (depth x) d (λ e. omega (arith, e, deep)))
      ∙ none_at d xs (All-tail (λ m. suc d ≤ depth m) x xs h)

  -- what is too deep counts for nothing
  pub past_deep : (b : ℕ) (xs ys : List ℕ) → All (λ m. b ≤ depth m) xs → layers b (xs ++ ys) ≡ layers b ys
  past_deep zero xs ys h = refl
  past_deep (suc d) xs ys h =
      let fewer : layers d (xs ++ ys) ≡ layers d ys = past_deep d xs ys (All-weaker (λ m. suc d ≤ depth m) (λ m. d ≤ depth m) (λ m l. omega (arith, l)) xs h) in
      let row : at_depth d (xs ++ ys) ≡ at_depth d ys = filter-append (λ m. eqb (depth m) d) xs ys ∙ ap (λ l. l ++ at_depth d ys) (none_at d xs h) in
      ap (λ l. l ++ at_depth d (xs ++ ys)) fewer ∙ ap (λ l. layers d ys ++ l) row

  pub layers_nil : (b : ℕ) → layers b [] ≡ []
  layers_nil zero = refl
  layers_nil (suc d) = ap (λ l. l ++ []) (layers_nil d)

  pub none_above : (b : ℕ) (xs : List ℕ) → All (λ m. b ≤ depth m) xs → layers b xs ≡ []
  none_above b xs h = ap (layers b) (sym (append-nil xs)) ∙ past_deep b xs [] h ∙ layers_nil b

  module _ (p : ℕ → Bool) where
    not_one : (b : Bool) (x : ℕ) (xs : List ℕ) → p x ≡ false → find p (cond b (x ∷ xs) xs) ≡ find p xs
    not_one true x xs e = ap (λ b. cond b (Some x) (find p xs)) e
    not_one false x xs e = refl

    -- a node that is not looked for
    pub without : (b x : ℕ) (xs : List ℕ) → p x ≡ false → find p (layers b (x ∷ xs)) ≡ find p (layers b xs)
    without zero x xs e = refl
    without (suc d) x xs e =
        find-append p (layers d (x ∷ xs)) (at_depth d (x ∷ xs))
        ∙ ap (λ o. option_or o (find p (at_depth d (x ∷ xs)))) (without d x xs e)
        ∙ ap (option_or (find p (layers d xs))) (not_one (eqb (depth x) d) x (at_depth d xs) e)
        ∙ sym (find-append p (layers d xs) (at_depth d xs))

    pub or_some : (o r : Option ℕ) (x : ℕ) → option_or (option_or o (Some x)) r ≡ option_or o (Some x)
    or_some None r x = refl
    or_some (Some y) r x = refl

    -- and one that is: only what is less deep comes before it
    pub found_at : (b x : ℕ) (xs : List ℕ) → depth x < b → p x ≡ true → find p (layers b (x ∷ xs)) ≡ option_or (find p (layers (depth x) xs)) (Some x)
    found_at zero x xs less e = absurd (omega (arith, less))
    found_at (suc d) x xs less e =
        find-append p (layers d (x ∷ xs)) (at_depth d (x ∷ xs)) ∙ elim (cases_lt (depth x) d) [
          | inl h ↦ ap (λ o. option_or o (find p (at_depth d (x ∷ xs)))) (found_at d x xs h e) ∙ or_some (find p (layers (depth x) xs)) (find p (at_depth d (x ∷ xs))) x
          | inr h ↦
              let same : d ≡ depth x = omega (arith, h, less) in
              let front : layers d (x ∷ xs) ≡ layers d xs = past_deep d (x ∷ []) xs (All-cons (λ m. d ≤ depth m) x [] h (All-nil (λ m. d ≤ depth m))) in
              let here : find p (at_depth d (x ∷ xs)) ≡ Some x =
              ap (λ b. find p (cond b (x ∷ at_depth d xs) (at_depth d xs))) (eq-eqb (depth x) d (sym same)) ∙ ap (λ b. cond b (Some x) (find p (at_depth d xs))) e in
              ap (λ l. option_or (find p l) (find p (at_depth d (x ∷ xs)))) front
              ∙ ap (option_or (find p (layers d xs))) here
              ∙ ap (λ k. option_or (find p (layers k xs)) (Some x)) same
        ]

-- so many levels down
abbrev pub level_at : ℕ → List Node → List ℕ → List ℕ
level_at zero ns xs = xs
level_at (suc j) ns xs = level_at j ns (level_below ns xs)

module _ (ns : List Node) where
  levels_more : (d : ℕ) (xs : List ℕ) → levels (suc d) ns xs ≡ levels d ns xs ++ level_at d ns xs
  levels_more zero xs = append-nil xs
  levels_more (suc d) xs = ap (λ l. xs ++ l) (levels_more d (level_below ns xs)) ∙ sym (append_assoc xs (levels d ns (level_below ns xs)) (level_at d ns (level_below ns xs)))

  level_none : (j : ℕ) → level_at j ns [] ≡ []
  level_none zero = refl
  level_none (suc j) = level_none j

  level-append : (j : ℕ) (xs ys : List ℕ) → level_at j ns (xs ++ ys) ≡ level_at j ns xs ++ level_at j ns ys
  level-append zero xs ys = refl
  level-append (suc j) xs ys = ap (level_at j ns) (flat_map-append (children_at ns) xs ys) ∙ level-append j (level_below ns xs) (level_below ns ys)

  level_each : (j : ℕ) (xs : List ℕ) → level_at j ns xs ≡ flat_map (λ x. level_at j ns (x ∷ [])) xs
  level_each j [] = level_none j
  level_each j (x ∷ xs) = level-append j (x ∷ []) xs ∙ ap (λ l. level_at j ns (x ∷ []) ++ l) (level_each j xs)

  -- what is found on the first levels is found
  found_early : (p : ℕ → Bool) (d k : ℕ) (xs : List ℕ) (m : ℕ) → find p (levels d ns xs) ≡ Some m → find p (levels (d + k) ns xs) ≡ Some m
  found_early p d zero xs m e = let same : d + 0 ≡ d = omega arith in ap (λ j. find p (levels j ns xs)) same ∙ e
  found_early p d (suc k) xs m e =
      let same : d + suc k ≡ suc (d + k) = omega arith in
      ap (λ j. find p (levels j ns xs)) same ∙ ap (find p) (levels_more (d + k) xs) ∙ find-append p (levels (d + k) ns xs) (level_at (d + k) ns xs)
      ∙ ap (λ o. option_or o (find p (level_at (d + k) ns xs))) (found_early p d k xs m e)

  pub found_near : (p : ℕ → Bool) (d size : ℕ) (xs : List ℕ) (o : Option ℕ) → d ≤ size → o ≡ find p (levels d ns xs) → is_some o ≡ true → o ≡ find p (levels size ns xs)
  found_near p d size xs None less e some = cc
  found_near p d size xs (Some m) less e some =
      let whole : d + (size - d) ≡ size = omega (arith, less) in
      sym (ap (λ j. find p (levels j ns xs)) (sym whole) ∙ found_early p d (size - d) xs m (sym e))

module _ (ns : List Node) (tree : IsTree ns) where
  pub depth_child : (n c : ℕ) → parent_at ns n ≡ Some c → depth_at ns n ≡ suc (depth_at ns c)
  depth_child n c said = ap (λ o. length (upward ns o)) said ∙ ap length (upward_is ns tree c (parent_there ns tree n c said).1)

  pub over_deep : (x n : ℕ) → IsOver ns x n → depth_at ns x ≤ depth_at ns n
  over_deep x _ itself = omega arith
  over_deep x n (above {c = c} said over) = omega (arith, depth_child n c said, over_deep x c over)

  below_deep : (k n : ℕ) → All (λ m. depth_at ns n ≤ depth_at ns m) (below k ns n)
  below_deep zero n = All-nil (λ m. depth_at ns n ≤ depth_at ns m)
  below_deep (suc k) n =
      let Deep : ℕ → Type 0 = λ m. depth_at ns n ≤ depth_at ns m in
      All-cons Deep n (flat_map (below k ns) (children_at ns n)) (omega arith)
      (all_flat Deep (below k ns) (children_at ns n)
      (All-from_get_or (λ c. All Deep (below k ns c)) (children_at ns n) 0 (λ i l.
      let c : ℕ = get_or (children_at ns n) i 0 in
      All-weaker (λ m. depth_at ns c ≤ depth_at ns m) Deep (λ m h. omega (arith, h, depth_child c n (tree.named n i l))) (below k ns c) (below_deep k c))))

  order_deep : (n : ℕ) → All (λ m. depth_at ns n ≤ depth_at ns m) (in_order ns n)
  unfolding in_order
  order_deep n = below_deep (length ns) n

  kids_deep : (n : ℕ) → All (λ c. All (λ m. suc (depth_at ns n) ≤ depth_at ns m) (in_order ns c)) (children_at ns n)
  kids_deep n =
      All-from_get_or (λ c. All (λ m. suc (depth_at ns n) ≤ depth_at ns m) (in_order ns c)) (children_at ns n) 0 (λ i l.
      let c : ℕ = get_or (children_at ns n) i 0 in
      All-weaker (λ m. depth_at ns c ≤ depth_at ns m) (λ m. suc (depth_at ns n) ≤ depth_at ns m) (λ m h. omega (arith, h, depth_child c n (tree.named n i l))) (in_order ns c) (order_deep c))

  -- what stands below a node is deeper
  pub inner_deep : (n : ℕ) → All (λ m. suc (depth_at ns n) ≤ depth_at ns m) (flat_map (in_order ns) (children_at ns n))
  inner_deep n = all_flat (λ m. suc (depth_at ns n) ≤ depth_at ns m) (in_order ns) (children_at ns n) (kids_deep n)

  -- what stands behind it in its row is at least as deep
  pub behind_deep : (n p : ℕ) → parent_at ns n ≡ Some p → All (λ m. depth_at ns n ≤ depth_at ns m) (flat_map (in_order ns) (drop (place_at ns n + 1) (children_at ns p)))
  behind_deep n p said =
      All-weaker (λ m. suc (depth_at ns p) ≤ depth_at ns m) (λ m. depth_at ns n ≤ depth_at ns m) (λ m h. omega (arith, h, depth_child n p said)) (flat_map (in_order ns) (drop (place_at ns n + 1) (children_at ns p)))
      (all_flat (λ m. suc (depth_at ns p) ≤ depth_at ns m) (in_order ns) (drop (place_at ns n + 1) (children_at ns p))
      (All-drop (λ c. All (λ m. suc (depth_at ns p) ≤ depth_at ns m) (in_order ns c)) (place_at ns n + 1) (children_at ns p) (kids_deep p)))

  level_is : (j n d : ℕ) → n < length ns → d ≡ depth_at ns n + j → at_depth (depth_at ns) d (in_order ns n) ≡ level_at j ns (n ∷ [])
  level_is zero n d h e =
      let inner : List ℕ = flat_map (in_order ns) (children_at ns n) in
      ap (at_depth (depth_at ns) d) (in_order_is ns tree n h)
      ∙ ap (λ b. cond b (n ∷ at_depth (depth_at ns) d inner) (at_depth (depth_at ns) d inner)) (eq-eqb (depth_at ns n) d (omega (arith, e)))
      ∙ ap (λ l. n ∷ l) (none_at (depth_at ns) d inner (All-weaker (λ m. suc (depth_at ns n) ≤ depth_at ns m) (λ m. suc d ≤ depth_at ns m) (λ m l. omega (arith, l, e)) inner (inner_deep n)))
  level_is (suc j) n d h e =
      let inner : List ℕ = flat_map (in_order ns) (children_at ns n) in
      let row : List ℕ = children_at ns n in
      ap (at_depth (depth_at ns) d) (in_order_is ns tree n h)
      ∙ ap (λ b. cond b (n ∷ at_depth (depth_at ns) d inner) (at_depth (depth_at ns) d inner)) (ne_eqb (depth_at ns n) d (λ same. omega (arith, e, same)))
      ∙ filter_flat (λ m. eqb (depth_at ns m) d) (in_order ns) row
      ∙ flat_map_same (λ c. at_depth (depth_at ns) d (in_order ns c)) (λ c. level_at j ns (c ∷ [])) row (λ i l.
      level_is j (get_or row i 0) d (tree.in_tree n i l) (omega (arith, e, depth_child (get_or row i 0) n (tree.named n i l))))
      ∙ sym (level_each ns j row)
      ∙ ap (level_at j ns) (sym (append-nil row))

  -- level after level stand those that are less and less high in the order of the document
  pub layers_are : (b n : ℕ) → n < length ns → layers (depth_at ns) (depth_at ns n + b) (in_order ns n) ≡ levels b ns (n ∷ [])
  layers_are zero n h =
      let same : depth_at ns n + 0 ≡ depth_at ns n = omega arith in
      ap (λ k. layers (depth_at ns) k (in_order ns n)) same ∙ none_above (depth_at ns) (depth_at ns n) (in_order ns n) (order_deep n)
  layers_are (suc b) n h =
      let same : depth_at ns n + suc b ≡ suc (depth_at ns n + b) = omega arith in
      ap (λ k. layers (depth_at ns) k (in_order ns n)) same
      ∙ ap (λ l. l ++ at_depth (depth_at ns) (depth_at ns n + b) (in_order ns n)) (layers_are b n h)
      ∙ ap (λ l. levels b ns (n ∷ []) ++ l) (level_is b n (depth_at ns n + b) h refl)
      ∙ sym (levels_more ns b (n ∷ []))
