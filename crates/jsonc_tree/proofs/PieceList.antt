-- The pieces of a document: those of its nodes in order, one for each leaf, which joined are what it prints.
use Rattle.std.proofs.Common.{◌≡◌, ℕ, zero, suc, List, [], ◌∷◌, ◌++◌, length, map, cond, true, false, refl, sym, ap, ◌∙◌, arith, Option, Some}
use Rattle.std.specs.List.{concat, flat_map}
use Rattle.std.proofs.lemmas.List.{append-nil, append_assoc, map-append, length-map}
use Rattle.std.proofs.lemmas.List.Concat.{concat_is, flat_map-append}
use Rattle.std.proofs.lemmas.List.Folds.{flat_map-map}
use Rattle.jsonc_tree.specs.Content.{text_of}
use Rattle.jsonc_tree.specs.Tree.{Node, IsTree, children_at, content_at, is_container_at}
use Rattle.jsonc_tree.specs.Order.{below, in_order, text_at, rest_at, pieces_at, pieces_from}
use Rattle.jsonc_tree.specs.OrderedTree.{OrderedTree, leaves, own_leaf, pieces, printed, plant, grown, ordered_tree}
use Rattle.jsonc_tree.proofs.Order.{line_of, line_long, steady, following_end}

-- the pieces joined are what is printed
pub pieces-joined : (t : OrderedTree) → concat (pieces t) ≡ printed t
pieces-joined t = concat_is (pieces t) ∙ flat_map-map (λ x. x) text_of (leaves t)

-- there are as many as leaves
pub pieces-count : (t : OrderedTree) → length (pieces t) ≡ length (leaves t)
pieces-count t = length-map (leaves t) text_of

nothing_below : (xs : List ℕ) (ns : List Node) → flat_map (below zero ns) xs ≡ []
nothing_below [] ns = refl
nothing_below (x ∷ xs) ns = nothing_below xs ns

module _ (ns : List Node) where
  pieces_planted : (k : ℕ) → ((n : ℕ) → flat_map (pieces_at ns) (below (suc k) ns n) ≡ pieces_at ns n ++ pieces (grown k ns n)) → (cs : List ℕ) → flat_map (pieces_at ns) (flat_map (below (suc k) ns) cs) ≡ pieces (plant (content_at ns) (grown k ns) cs)
  pieces_planted k ih [] = refl
  pieces_planted k ih (c ∷ cs) =
      let rest : OrderedTree = plant (content_at ns) (grown k ns) cs in
      flat_map-append (pieces_at ns) (below (suc k) ns c) (flat_map (below (suc k) ns) cs)
      ∙ ap (λ l. l ++ flat_map (pieces_at ns) (flat_map (below (suc k) ns) cs)) (ih c)
      ∙ ap (λ l. (pieces_at ns c ++ pieces (grown k ns c)) ++ l) (pieces_planted k ih cs)
      ∙ append_assoc (pieces_at ns c) (pieces (grown k ns c)) (pieces rest)
      ∙ ap (λ l. pieces_at ns c ++ l) (sym (map-append text_of (leaves (grown k ns c)) (leaves rest)))
      ∙ sym (map-append text_of (own_leaf (content_at ns c)) (leaves (grown k ns c) ++ leaves rest))

  pieces_below : (k n : ℕ) → flat_map (pieces_at ns) (below (suc k) ns n) ≡ pieces_at ns n ++ pieces (grown k ns n)
  pieces_below zero n = ap (λ l. pieces_at ns n ++ flat_map (pieces_at ns) l) (nothing_below (children_at ns n) ns)
  pieces_below (suc k) n = ap (λ l. pieces_at ns n ++ l) (pieces_planted k (pieces_below k) (children_at ns n))

  -- a container is passed over
  pub pieces_pass : (n : ℕ) (o : Option ℕ) → rest_at ns 0 (Some n) ≡ n ∷ rest_at ns 0 o → is_container_at ns n ≡ true → pieces_from ns (Some n) ≡ pieces_from ns o
  pieces_pass n o step container =
      ap (flat_map (pieces_at ns)) step
      ∙ ap (λ b. map text_of (cond b [] (content_at ns n ∷ [])) ++ flat_map (pieces_at ns) (rest_at ns 0 o)) container

  -- a leaf gives its piece
  pub pieces_give : (n : ℕ) (o : Option ℕ) → rest_at ns 0 (Some n) ≡ n ∷ rest_at ns 0 o → is_container_at ns n ≡ false → pieces_from ns (Some n) ≡ text_at ns n ∷ pieces_from ns o
  pieces_give n o step leaf =
      ap (flat_map (pieces_at ns)) step
      ∙ ap (λ b. map text_of (cond b [] (content_at ns n ∷ [])) ++ flat_map (pieces_at ns) (rest_at ns 0 o)) leaf

-- the pieces from the root on are those of the document
pub pieces_whole : (ns : List Node) → IsTree ns → pieces_from ns (Some 0) ≡ pieces (ordered_tree ns 0)
unfolding ordered_tree in_order
pieces_whole ns tree =
    let line = line_of ns 0 (tree.rooted 0) in
    let shape = leaves (grown (length ns) ns 0) in
    ap (λ l. flat_map (pieces_at ns) (in_order ns 0 ++ l)) (following_end ns tree 0 tree.first)
    ∙ ap (flat_map (pieces_at ns)) (append-nil (in_order ns 0))
    ∙ ap (flat_map (pieces_at ns)) (steady ns tree (length ns) 0 line.0 tree.first line.1 (omega (arith, line_long ns tree 0 line.0 line.1)))
    ∙ pieces_below ns (length ns) 0
    ∙ sym (map-append text_of (own_leaf (content_at ns 0)) shape)
    ∙ ap (λ l. map text_of (own_leaf (content_at ns 0) ++ l)) (sym (append-nil shape))
