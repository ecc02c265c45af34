-- The comments of a document in order: they stay where spaces come and where other nodes are made, and as many stand before one as its number says.
use Rattle.std.proofs.Common.{◌≡◌, ◌≢◌, ℕ, zero, suc, ◌+◌, ◌-◌, ◌<◌, Bool, true, false, cond, List, [], ◌∷◌, ◌++◌, length, filter, get_or, map, take, drop, slice_range, Some, None, refl, sym, ap, ◌∙◌, arith, length-append}
use Rattle.std.proofs.lemmas.List.Elements.{All-nil, All-cons, All-append, All-head, All-tail, filter-append}
use Rattle.std.specs.List.{flat_map, slice_get}
use Rattle.jsonc_tree.specs.Building.{Keeps}
use Rattle.jsonc_tree.specs.Content.{Content, is_container}
use Rattle.jsonc_tree.specs.Order.{below, in_order}
use Rattle.jsonc_tree.specs.OrderedTree.{own_leaf}
use Rattle.jsonc_tree.specs.Tree.{Node, content_at, parent_at, children_at, place_at, IsTree, IsOver}
use Rattle.jsonc_tree.proofs.Order.{flat_map_same, in_order_is, line_long, line_of, over_step, parent_there, steady}
use Rattle.jsonc_layout.specs.nodes.Kinds.{is_comment, is_comment_at}
use Rattle.jsonc_layout.specs.nodes.Siblings.{AreThere}
use Rattle.jsonc_sound.specs.MarkChanges.{AreBlanks}
use Rattle.jsonc_sound.specs.Marks as marks
use Rattle.jsonc_sound.specs.Marks.{comments_of, marks_of}
use Rattle.jsonc_sound.specs.TriviaChanges.{AreTrivia}
use Rattle.jsonc_sound.proofs.ReplacedStretches.{marks_join}
use Rattle.jsonc_edit.specs.Put.{StandsBefore}
use Rattle.jsonc_edit.proofs.InOrder.{leaf_at, spliced_order}
use Rattle.jsonc_edit.proofs.LeafKinds.{trivia_leaf}
use Rattle.jsonc_edit.proofs.Lists.{filter_same}

-- the comments of a document, in order
abbrev pub comment_nodes : List Node → List ℕ
comment_nodes ns = filter (is_comment_at ns) (in_order ns 0)

-- where one of a kind stands at a place among those of its kind, as many stand before it
pub picked : (p : ℕ → Bool) (xs : List ℕ) (k n : ℕ) → slice_get (filter p xs) k ≡ Some n → (us : List ℕ) × (vs : List ℕ) × (xs ≡ us ++ n ∷ vs) × (length (filter p us) ≡ k)
picked p [] k n e = absurd (let wrong : None ≡ Some n = e in cc)
picked p (x ∷ xs) k n e = by (p x) refl k e (λ m f. picked p xs m n f)
  where
    later : (k : ℕ) → (us : List ℕ) × (vs : List ℕ) × (xs ≡ us ++ n ∷ vs) × (length (filter p us) ≡ k) → (b : Bool) → p x ≡ b → (us : List ℕ) × (vs : List ℕ) × (x ∷ xs ≡ us ++ n ∷ vs) × (length (filter p us) ≡ cond b (suc k) k)
    later k (us, vs, split, count) true h = (x ∷ us, vs, ap (λ (l : List ℕ). x ∷ l) split, ap (λ b. length (cond b (x ∷ filter p us) (filter p us))) h ∙ ap suc count)
    later k (us, vs, split, count) false h = (x ∷ us, vs, ap (λ (l : List ℕ). x ∷ l) split, ap (λ b. length (cond b (x ∷ filter p us) (filter p us))) h ∙ count)

    by : (b : Bool) → p x ≡ b → (k : ℕ) → slice_get (cond (p x) (x ∷ filter p xs) (filter p xs)) k ≡ Some n
        → ((m : ℕ) → slice_get (filter p xs) m ≡ Some n → (us : List ℕ) × (vs : List ℕ) × (xs ≡ us ++ n ∷ vs) × (length (filter p us) ≡ m))
        → (us : List ℕ) × (vs : List ℕ) × (x ∷ xs ≡ us ++ n ∷ vs) × (length (filter p us) ≡ k)
    by true h zero f rest = let same : x ≡ n = (let both : Some x ≡ Some n = sym (ap (λ b. slice_get (cond b (x ∷ filter p xs) (filter p xs)) zero) h) ∙ f in cc) in ([], xs, ap (λ m. m ∷ xs) same, refl)
    by true h (suc k) f rest = later k (rest k (sym (ap (λ b. slice_get (cond b (x ∷ filter p xs) (filter p xs)) (suc k)) h) ∙ f)) true h
    by false h k f rest = later k (rest k (sym (ap (λ b. slice_get (cond b (x ∷ filter p xs) (filter p xs)) k) h) ∙ f)) false h

-- as many comments are among the marks of nodes as among the nodes
own_count : (content : Content) → length (comments_of (marks_of (own_leaf content))) ≡ cond (is_comment content) 1 0
own_count Content.root = refl
own_count Content.array = refl
own_count Content.object = refl
own_count Content.property = refl
own_count (Content.string s) = refl
own_count (Content.word s) = refl
own_count (Content.number s) = refl
own_count (Content.boolean b) = refl
own_count Content.null = refl
own_count (Content.token c) = refl
own_count (Content.whitespace s) = refl
own_count (Content.newline k) = refl
own_count (Content.comment s) = refl

one_more : (b : Bool) (x : ℕ) (l : List ℕ) → length (cond b (x ∷ l) l) ≡ cond b 1 0 + length l
one_more true x l = omega arith
one_more false x l = omega arith

pub comments_counted : (ns : List Node) (xs : List ℕ) → length (comments_of (marks_of (flat_map (leaf_at ns) xs))) ≡ length (filter (is_comment_at ns) xs)
comments_counted ns [] = refl
comments_counted ns (x ∷ xs) =
    ap (λ l. length (comments_of l)) (marks_join (leaf_at ns x) (flat_map (leaf_at ns) xs))
    ∙ ap (λ l. length l) (filter-append marks.is_comment (marks_of (leaf_at ns x)) (marks_of (flat_map (leaf_at ns) xs)))
    ∙ length-append (comments_of (marks_of (leaf_at ns x))) (comments_of (marks_of (flat_map (leaf_at ns) xs)))
    ∙ ap (λ k. k + length (comments_of (marks_of (flat_map (leaf_at ns) xs)))) (own_count (content_at ns x))
    ∙ ap (λ k. cond (is_comment_at ns x) 1 0 + k) (comments_counted ns xs)
    ∙ sym (one_more (is_comment_at ns x) x (filter (is_comment_at ns) xs))

not_comment : (content : Content) (rest : List Content) → AreBlanks (content ∷ rest) → is_comment content ≡ false
not_comment (Content.comment s) rest h = absurd (let wrong : false ≡ true = h.0 in cc)
not_comment content rest h = refl

pub blanks_uncounted : (ns : List Node) (xs : List ℕ) → AreBlanks (map (content_at ns) xs) → filter (is_comment_at ns) xs ≡ []
blanks_uncounted ns [] h = refl
blanks_uncounted ns (x ∷ xs) h =
    ap (λ b. cond b (x ∷ filter (is_comment_at ns) xs) (filter (is_comment_at ns) xs)) (not_comment (content_at ns x) (map (content_at ns) xs) h) ∙ blanks_uncounted ns xs h.1

module _ (ns : List Node) (tree : IsTree ns) where
  leaf_alone : (n : ℕ) → n < length ns → is_container (content_at ns n) ≡ false → in_order ns n ≡ n ∷ []
  leaf_alone n there leaf = in_order_is ns tree n there ∙ ap (λ l. n ∷ flat_map (in_order ns) l) (tree.leaf n leaf)

  -- trivia stands for itself in order, and its leaves are its own
  pub trivia_in_order : (xs : List ℕ) → AreThere ns xs → AreTrivia (map (content_at ns) xs) → flat_map (in_order ns) xs ≡ xs
  trivia_in_order [] there h = refl
  trivia_in_order (x ∷ xs) there h =
      ap (λ l. l ++ flat_map (in_order ns) xs) (leaf_alone x (All-head (λ m. m < length ns) x xs there) (trivia_leaf (content_at ns x) h.0))
      ∙ ap (λ (l : List ℕ). x ∷ l) (trivia_in_order xs (All-tail (λ m. m < length ns) x xs there) h.1)

  pub trivia_leaves : (xs : List ℕ) → AreTrivia (map (content_at ns) xs) → flat_map (leaf_at ns) xs ≡ map (content_at ns) xs
  trivia_leaves [] h = refl
  trivia_leaves (x ∷ xs) h =
      ap (λ b. cond b [] (content_at ns x ∷ []) ++ flat_map (leaf_at ns) xs) (trivia_leaf (content_at ns x) h.0) ∙ ap (λ (l : List Content). content_at ns x ∷ l) (trivia_leaves xs h.1)

-- they stay where a space comes
module _ (old new : List Node) (x leaf : ℕ) (tree : IsTree old) (r : StandsBefore old new x leaf) (over : IsOver old 0 x) where
  no_root : x ≢ 0
  no_root e = let wrong : None ≡ Some r.container = sym tree.root_alone ∙ ap (parent_at old) (sym e) ∙ r.parent in cc

  pub space_keeps_comments : comment_nodes new ≡ comment_nodes old
  space_keeps_comments =
      let place : ℕ = place_at old x in
      let o = spliced_order old new tree r.tree r.container place place (leaf ∷ []) r.put (parent_there old tree x r.container r.parent).1 (over_step old tree 0 x r.container over no_root r.parent) (omega arith) in
      let nothing : slice_range (children_at old r.container) place place ≡ [] = (let z : place - place ≡ 0 = omega arith in ap (λ k. take k (drop place (children_at old r.container))) z) in
      let space : is_container (content_at new leaf) ≡ false = ap is_container (r.put.content leaf ∙ r.was.is) in
      let alone : in_order new leaf ≡ leaf ∷ [] = leaf_alone new r.tree leaf (omega (arith, r.was.in_tree, r.put.len)) space in
      let now : in_order new 0 ≡ o.front ++ (leaf ∷ o.behind) = o.is ∙ ap (λ l. o.front ++ ((l ++ []) ++ o.behind)) alone in
      let was : in_order old 0 ≡ o.front ++ o.behind = o.was ∙ ap (λ l. o.front ++ (flat_map (in_order old) l ++ o.behind)) nothing in
      let none : is_comment_at old leaf ≡ false = ap is_comment r.was.is in
      filter_same (is_comment_at new) (is_comment_at old) (λ k. ap is_comment (r.put.content k)) (in_order new 0)
      ∙ ap (filter (is_comment_at old)) now
      ∙ filter-append (is_comment_at old) o.front (leaf ∷ o.behind)
      ∙ ap (λ b. filter (is_comment_at old) o.front ++ cond b (leaf ∷ filter (is_comment_at old) o.behind) (filter (is_comment_at old) o.behind)) none
      ∙ sym (filter-append (is_comment_at old) o.front o.behind)
      ∙ sym (ap (filter (is_comment_at old)) was)

-- and where other nodes are made
module _ (old new : List Node) (tree : IsTree old) (keeps : Keeps (length old) old new) where
  below_same : (d m : ℕ) → m < length old → below d new m ≡ below d old m
  below_same zero m there = refl
  below_same (suc d) m there =
      ap (λ l. m ∷ flat_map (below d new) l) (keeps.children m there)
      ∙ ap (λ l. m ∷ l) (flat_map_same (below d new) (below d old) (children_at old m) (λ k h. below_same d (get_or (children_at old m) k 0) (tree.in_tree m k h)))

  deep_enough : (e : ℕ) → below (length old + e) old 0 ≡ below (length old) old 0
  deep_enough zero = ap (λ k. below k old 0) (omega arith)
  deep_enough (suc e) =
      let line = line_of old 0 (tree.rooted 0) in
      let one : length old + suc e ≡ suc (length old + e) = omega arith in
      ap (λ k. below k old 0) one ∙ sym (steady old tree (length old + e) 0 line.0 tree.first line.1 (omega (arith, line_long old tree 0 line.0 line.1))) ∙ deep_enough e

  order_ready : in_order new 0 ≡ in_order old 0
  unfolding in_order
  order_ready =
      let more : length new ≡ length old + (length new - length old) = omega (arith, keeps.len) in
      ap (λ k. below k new 0) more ∙ below_same (length old + (length new - length old)) 0 tree.first ∙ deep_enough (length new - length old)

  filter_there : (xs : List ℕ) → AreThere old xs → filter (is_comment_at new) xs ≡ filter (is_comment_at old) xs
  filter_there [] h = refl
  filter_there (x ∷ xs) h =
      ap (λ b. cond b (x ∷ filter (is_comment_at new) xs) (filter (is_comment_at new) xs)) (ap is_comment (keeps.content x (All-head (λ m. m < length old) x xs h)))
      ∙ ap (λ l. cond (is_comment_at old x) (x ∷ l) l) (filter_there xs (All-tail (λ m. m < length old) x xs h))

  all_joined : (f : ℕ → List ℕ) (xs : List ℕ) → ((k : ℕ) → k < length xs → AreThere old (f (get_or xs k 0))) → AreThere old (flat_map f xs)
  all_joined f [] h = All-nil (λ m. m < length old)
  all_joined f (x ∷ xs) h = All-append (λ m. m < length old) (f x) (flat_map f xs) (h 0 (omega arith)) (all_joined f xs (λ k l. h (suc k) (omega (arith, l))))

  below_there : (d m : ℕ) → m < length old → AreThere old (below d old m)
  below_there zero m there = All-nil (λ k. k < length old)
  below_there (suc d) m there =
      All-cons (λ k. k < length old) m (flat_map (below d old) (children_at old m)) there
      (all_joined (below d old) (children_at old m) (λ k h. below_there d (get_or (children_at old m) k 0) (tree.in_tree m k h)))

  order_there : AreThere old (in_order old 0)
  unfolding in_order
  order_there = below_there (length old) 0 tree.first

  pub making_keeps_comments : comment_nodes new ≡ comment_nodes old
  making_keeps_comments = ap (filter (is_comment_at new)) order_ready ∙ filter_there (in_order old 0) order_there
