-- Each node stands for one ordered tree, and the nodes in order print its leaves.
use Rattle.std.proofs.Common.{◌≡◌, ℕ, zero, suc, ◌+◌, ◌<◌, List, [], ◌∷◌, ◌++◌, length, get_or, refl, sym, ap, ◌∙◌, arith}
use Rattle.std.specs.List.{flat_map}
use Rattle.std.proofs.lemmas.List.{append_assoc, append-nil}
use Rattle.std.proofs.lemmas.List.Concat.{flat_map-append}
use Rattle.jsonc_tree.specs.Content.{Content, root, object, array, property, string, word, number, boolean, null, token, whitespace, newline, comment, text_of}
use Rattle.jsonc_tree.specs.Tree.{Node, IsTree, children_at, content_at}
use Rattle.jsonc_tree.specs.Order.{below, in_order, text_at, printed_at}
use Rattle.jsonc_tree.specs.OrderedTree.{OrderedTree, none, more, leaves, own_leaf, printed, followed_by, Shows, shows_none, shows_more, plant, grown, ordered_tree}
use Rattle.jsonc_tree.proofs.Order.{Line, line_of, line_short, line_long, longer, steady}

-- a container prints nothing itself, and a leaf its text
printed_own : (c : Content) → flat_map text_of (own_leaf c) ≡ text_of c
printed_own root = refl
printed_own object = refl
printed_own array = refl
printed_own property = refl
printed_own (string s) = append-nil s
printed_own (word s) = append-nil s
printed_own (number s) = append-nil s
printed_own (boolean b) = append-nil (text_of (boolean b))
printed_own null = refl
printed_own (token c) = append-nil (text_of (token c))
printed_own (whitespace s) = append-nil s
printed_own (newline k) = append-nil (text_of (newline k))
printed_own (comment s) = append-nil s

-- what a row prints: what the first top prints itself, what is below it, and what comes after
pub printed-more : (c : Content) (b a : OrderedTree) → printed (more c b a) ≡ text_of c ++ (printed b ++ printed a)
printed-more c b a =
    flat_map-append text_of (own_leaf c) (leaves b ++ leaves a)
    ∙ ap (λ l. l ++ flat_map text_of (leaves b ++ leaves a)) (printed_own c)
    ∙ ap (λ l. text_of c ++ l) (flat_map-append text_of (leaves b) (leaves a))

-- the leaves of two rows are those of the first and then those of the second
pub leaves-followed_by : (t u : OrderedTree) → leaves (followed_by t u) ≡ leaves t ++ leaves u
leaves-followed_by none u = refl
leaves-followed_by (more c b a) u =
    ap (λ l. own_leaf c ++ (leaves b ++ l)) (leaves-followed_by a u)
    ∙ ap (λ l. own_leaf c ++ l) (sym (append_assoc (leaves b) (leaves a) (leaves u)))
    ∙ sym (append_assoc (own_leaf c) (leaves b ++ leaves a) (leaves u))

-- and so is what they print
pub printed-followed_by : (t u : OrderedTree) → printed (followed_by t u) ≡ printed t ++ printed u
printed-followed_by t u = ap (flat_map text_of) (leaves-followed_by t u) ∙ flat_map-append text_of (leaves t) (leaves u)

plant_same : (content : ℕ → Content) (f g : ℕ → OrderedTree) (xs : List ℕ) → ((i : ℕ) → i < length xs → f (get_or xs i 0) ≡ g (get_or xs i 0)) → plant content f xs ≡ plant content g xs
plant_same content f g [] h = refl
plant_same content f g (x ∷ xs) h =
    let first : f x ≡ g x = h 0 (omega arith) in
    let rest = plant_same content f g xs (λ i l. h (suc i) (omega arith)) in
    cc

flat_map_none : (xs : List ℕ) (ns : List Node) → flat_map (below zero ns) xs ≡ []
flat_map_none [] ns = refl
flat_map_none (x ∷ xs) ns = flat_map_none xs ns

module _ (ns : List Node) where
  text_plant : (k : ℕ) → ((n : ℕ) → flat_map (text_at ns) (below (suc k) ns n) ≡ text_at ns n ++ printed (grown k ns n)) → (cs : List ℕ) → flat_map (text_at ns) (flat_map (below (suc k) ns) cs) ≡ printed (plant (content_at ns) (grown k ns) cs)
  text_plant k ih [] = refl
  text_plant k ih (c ∷ cs) =
      flat_map-append (text_at ns) (below (suc k) ns c) (flat_map (below (suc k) ns) cs)
      ∙ ap (λ l. l ++ flat_map (text_at ns) (flat_map (below (suc k) ns) cs)) (ih c)
      ∙ append_assoc (text_at ns c) (printed (grown k ns c)) (flat_map (text_at ns) (flat_map (below (suc k) ns) cs))
      ∙ ap (λ l. text_at ns c ++ (printed (grown k ns c) ++ l)) (text_plant k ih cs)
      ∙ sym (printed-more (content_at ns c) (grown k ns c) (plant (content_at ns) (grown k ns) cs))

  text_below : (k n : ℕ) → flat_map (text_at ns) (below (suc k) ns n) ≡ text_at ns n ++ printed (grown k ns n)
  text_below zero n = ap (λ l. text_at ns n ++ flat_map (text_at ns) l) (flat_map_none (children_at ns n) ns)
  text_below (suc k) n = ap (λ l. text_at ns n ++ l) (text_plant k (text_below k) (children_at ns n))

  -- the numbers of a row are shown if what is below each is
  Shows-plant : (f : ℕ → OrderedTree) (xs : List ℕ) → ((i : ℕ) → i < length xs → Shows ns (children_at ns (get_or xs i 0)) (f (get_or xs i 0))) → Shows ns xs (plant (content_at ns) f xs)
  Shows-plant f [] h = shows_none
  Shows-plant f (x ∷ xs) h = shows_more (h 0 (omega arith)) (Shows-plant f xs (λ i l. h (suc i) (omega arith)))

module _ (ns : List Node) (tree : IsTree ns) where
  -- as many levels as there are nodes are enough
  Shows-grown : (k n : ℕ) (us : List ℕ) → n < length ns → Line ns n us → length ns < k + length us → Shows ns (children_at ns n) (grown k ns n)
  Shows-grown zero n us h line wide = absurd (omega (arith, line_short ns tree n us h line))
  Shows-grown (suc k) n us h line wide =
      Shows-plant ns (grown k ns) (children_at ns n) (λ i l.
      Shows-grown k (get_or (children_at ns n) i 0) (get_or (children_at ns n) i 0 ∷ us) (tree.in_tree n i l) (longer (tree.named n i l) line) (omega arith))

  -- each node that is there stands for its ordered tree
  pub Shows-ordered_tree : (n : ℕ) → n < length ns → Shows ns (n ∷ []) (ordered_tree ns n)
  unfolding ordered_tree
  Shows-ordered_tree n h =
      let line = line_of ns n (tree.rooted n) in
      shows_more (Shows-grown (length ns) n line.0 h line.1 (omega (arith, line_long ns tree n line.0 line.1))) shows_none

  -- the nodes in order print the leaves of the ordered tree
  pub printed_at-ordered_tree : (n : ℕ) → n < length ns → printed_at ns n ≡ printed (ordered_tree ns n)
  unfolding ordered_tree in_order
  printed_at-ordered_tree n h =
      let line = line_of ns n (tree.rooted n) in
      ap (flat_map (text_at ns)) (steady ns tree (length ns) n line.0 h line.1 (omega (arith, line_long ns tree n line.0 line.1)))
      ∙ text_below ns (length ns) n
      ∙ ap (λ l. text_at ns n ++ l) (sym (append-nil (printed (grown (length ns) ns n))))
      ∙ sym (printed-more (content_at ns n) (grown (length ns) ns n) none)

-- a row of numbers stands for one ordered tree
pub Shows-unique : (ns : List Node) (xs : List ℕ) (t u : OrderedTree) → Shows ns xs t → Shows ns xs u → t ≡ u
Shows-unique ns _ _ _ shows_none shows_none = refl
Shows-unique ns _ _ _ (shows_more {n = n} {rest = rest} {below = b} {after = a} p q) (shows_more {below = d} {after = e} r s) =
    let first = Shows-unique ns (children_at ns n) b d p r in
    let last = Shows-unique ns rest a e q s in
    ap (λ x. more (content_at ns n) x a) first ∙ ap (more (content_at ns n) d) last
