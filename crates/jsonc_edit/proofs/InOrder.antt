-- The nodes of a document in order: its leaves, and what stands before and behind a node, or a row, of it.
use Rattle.std.proofs.Common.{◌≡◌, ◌≢◌, ℕ, zero, suc, ◌+◌, ◌<◌, ◌≤◌, Bool, List, [], ◌∷◌, ◌++◌, length, filter, get_or, take, drop, slice_range, Option, Some, None, IfSome, inl, inr, refl, sym, ap, subst, ◌∙◌, arith, length-append, length-take, length-drop, get_or-take, get_or-drop}
use Rattle.std.proofs.lemmas.Bool.{cases_lt}
use Rattle.std.proofs.lemmas.List.{append-nil, append_assoc, take-append-drop, drop_more}
use Rattle.std.proofs.lemmas.List.Concat.{flat_map-append}
use Rattle.std.proofs.lemmas.List.Edits.{split_between}
use Rattle.std.proofs.lemmas.List.Elements.{All-nil, All-cons, All-head, All-tail, filter-append}
use Rattle.std.specs.List.{flat_map}
use Rattle.jsonc_tree.specs.Changes.{Splices}
use Rattle.jsonc_tree.specs.Content.{Content}
use Rattle.jsonc_tree.specs.Order.{below, in_order, following, rest_at}
use Rattle.jsonc_tree.specs.OrderedTree.{OrderedTree, leaves, ordered_tree, own_leaf, Shows, shows_none, shows_more}
use Rattle.jsonc_tree.specs.Tree.{Node, content_at, parent_at, children_at, place_at, IsTree, IsOver, itself, above}
use Rattle.jsonc_tree.proofs.Order.{flat_map_same, following_end, following_next, following_up, in_order_is, not_over_parent, parent_there, rest_down, rest_over}
use Rattle.jsonc_tree.proofs.OrderedTrees.{Shows-ordered_tree}
use Rattle.jsonc_tree.proofs.Over.{over_up, sibling_not_over}
use Rattle.jsonc_layout.specs.nodes.Siblings.{AreThere}
use Rattle.jsonc_layout.proofs.lemmas.nodes.InTree.{children_there}

-- the leaf that a node is, and none of a container
abbrev pub leaf_at : List Node → ℕ → List Content
leaf_at ns n = own_leaf (content_at ns n)

module _ (ns : List Node) (tree : IsTree ns) where
  pub shown_leaves : (xs : List ℕ) (t : OrderedTree) → AreThere ns xs → Shows ns xs t → leaves t ≡ flat_map (leaf_at ns) (flat_map (in_order ns) xs)
  shown_leaves _ _ h shows_none = refl
  shown_leaves _ _ h (shows_more {n = n} {rest = rest} {below = under} {after = after} p q) =
      let there = All-head (λ m. m < length ns) n rest h in
      let kids : List ℕ = flat_map (in_order ns) (children_at ns n) in
      let others : List ℕ = flat_map (in_order ns) rest in
      ap (λ l. leaf_at ns n ++ (l ++ leaves after)) (shown_leaves (children_at ns n) under (children_there ns tree n) p)
      ∙ ap (λ l. leaf_at ns n ++ (flat_map (leaf_at ns) kids ++ l)) (shown_leaves rest after (All-tail (λ m. m < length ns) n rest h) q)
      ∙ ap (λ l. leaf_at ns n ++ l) (sym (flat_map-append (leaf_at ns) kids others))
      ∙ ap (λ l. flat_map (leaf_at ns) (l ++ others)) (sym (in_order_is ns tree n there))

  -- the leaves of the document are those of its nodes in order
  pub leaves_in_order : leaves (ordered_tree ns 0) ≡ flat_map (leaf_at ns) (in_order ns 0)
  leaves_in_order =
      shown_leaves (0 ∷ []) (ordered_tree ns 0) (All-cons (λ m. m < length ns) 0 [] tree.first (All-nil (λ m. m < length ns))) (Shows-ordered_tree ns tree 0 tree.first)
      ∙ ap (flat_map (leaf_at ns)) (append-nil (in_order ns 0))

  -- a node of the document
  abbrev IsHere : ℕ → Type 0
  IsHere n = (n < length ns) × IsOver ns 0 n

  no_root : (n p : ℕ) → parent_at ns n ≡ Some p → n ≢ 0
  no_root n p said e = let wrong : None ≡ Some p = sym tree.root_alone ∙ ap (parent_at ns) (sym e) ∙ said in cc

  follow : (n : ℕ) → n < length ns → IsOver ns 0 n → (o : Option ℕ) × (following ns 0 n ≡ rest_at ns 0 o) × IfSome o IsHere
  follow _ there itself = (None, following_end ns tree 0 there, tt)
  follow n there (above {c = p} said over) =
      elim (cases_lt (place_at ns n + 1) (length (children_at ns p))) [
        | inl more ↦ (
          Some (get_or (children_at ns p) (place_at ns n + 1) 0),
          following_next ns tree 0 n p (no_root n p said) (above said over) said more,
          (tree.in_tree p (place_at ns n + 1) more, above (tree.named p (place_at ns n + 1) more) over),
        )
        | inr last ↦ (let up = follow p (parent_there ns tree n p said).1 over in (up.0, following_up ns tree 0 n p (no_root n p said) said last ∙ up.1, up.2))
      ]

  next_step : (n : ℕ) → IsHere n → (o : Option ℕ) × (rest_at ns 0 (Some n) ≡ n ∷ rest_at ns 0 o) × IfSome o IsHere
  next_step n (there, over) =
      elim (cases_lt 0 (length (children_at ns n))) [
        | inl more ↦ (Some (get_or (children_at ns n) 0 0), rest_down ns tree 0 n there over more, (tree.in_tree n 0 more, above (tree.named n 0 more) over))
        | inr bare ↦ (let f = follow n there over in (f.0, rest_over ns tree 0 n f.0 there (omega (arith, bare)) f.1, f.2))
      ]

  -- where the walk comes to a node, it and what is still to come then stand behind
  comes_to_it : (n : ℕ) (xs ys : List ℕ) (o : Option ℕ) → IfSome o IsHere → rest_at ns 0 o ≡ xs ++ n ∷ ys → n ∷ ys ≡ rest_at ns 0 (Some n)
  comes_to_it n [] ys None h e = let wrong : [] ≡ n ∷ ys = e in cc
  comes_to_it n (x ∷ xs) ys None h e = let wrong : [] ≡ x ∷ (xs ++ n ∷ ys) = e in cc
  comes_to_it n [] ys (Some m) h e =
      let s = next_step m h in
      let both : m ∷ rest_at ns 0 s.0 ≡ n ∷ ys = sym s.1 ∙ e in
      let same : m ≡ n = cc in
      sym e ∙ ap (λ k. rest_at ns 0 (Some k)) same
  comes_to_it n (x ∷ xs) ys (Some m) h e =
      let s = next_step m h in
      let both : m ∷ rest_at ns 0 s.0 ≡ x ∷ (xs ++ n ∷ ys) = sym s.1 ∙ e in
      let rest : rest_at ns 0 s.0 ≡ xs ++ n ∷ ys = cc in
      comes_to_it n xs ys s.0 s.2 rest

  behind_it : (n : ℕ) (xs ys : List ℕ) → in_order ns 0 ≡ xs ++ n ∷ ys → n ∷ ys ≡ rest_at ns 0 (Some n)
  behind_it n xs ys e =
      comes_to_it n xs ys (Some 0) (tree.first, itself) (ap (λ l. in_order ns 0 ++ l) (following_end ns tree 0 tree.first) ∙ append-nil (in_order ns 0) ∙ e)

  -- so as many of a kind stand before a node, in whatever way that is told
  pub as_many_before : (p : ℕ → Bool) (n : ℕ) (xs ys us vs : List ℕ) → in_order ns 0 ≡ xs ++ n ∷ ys → in_order ns 0 ≡ us ++ n ∷ vs → length (filter p xs) ≡ length (filter p us)
  as_many_before p n xs ys us vs e f =
      let back : n ∷ ys ≡ n ∷ vs = behind_it n xs ys e ∙ sym (behind_it n us vs f) in
      let one : length (filter p (xs ++ n ∷ ys)) ≡ length (filter p xs) + length (filter p (n ∷ ys)) = ap (λ (l : List ℕ). length l) (filter-append p xs (n ∷ ys)) ∙ length-append (filter p xs) (filter p (n ∷ ys)) in
      let two : length (filter p (us ++ n ∷ vs)) ≡ length (filter p us) + length (filter p (n ∷ vs)) = ap (λ (l : List ℕ). length l) (filter-append p us (n ∷ vs)) ∙ length-append (filter p us) (filter p (n ∷ vs)) in
      let whole : length (filter p (xs ++ n ∷ ys)) ≡ length (filter p (us ++ n ∷ vs)) = ap (λ l. length (filter p l)) (sym e ∙ f) in
      let tail : length (filter p (n ∷ ys)) ≡ length (filter p (n ∷ vs)) = ap (λ l. length (filter p l)) back in
      omega (arith, one, two, whole, tail)

-- the nodes of a document whose row below c is spliced
module _ (old new : List Node) (tree : IsTree old) (after : IsTree new) (c i j : ℕ) (xs : List ℕ) (s : Splices old new c i j xs) where
  below_kept : (d m : ℕ) → (IsOver old m c → ⊥) → below d new m ≡ below d old m
  below_kept zero m out = refl
  below_kept (suc d) m out =
      let same : children_at new m ≡ children_at old m = (s.others m (λ e. out (subst (λ k. IsOver old k c) (sym e) itself))) in
      ap (λ l. m ∷ flat_map (below d new) l) same
      ∙ ap (λ l. m ∷ l) (flat_map_same (below d new) (below d old) (children_at old m) (λ k h.
      below_kept d (get_or (children_at old m) k 0) (λ over. out (over_up old (get_or (children_at old m) k 0) m c (tree.named m k h) over))))

  order_kept : (m : ℕ) → (IsOver old m c → ⊥) → in_order new m ≡ in_order old m
  unfolding in_order
  order_kept m out = ap (λ k. below k new m) s.len ∙ below_kept (length old) m out

  -- these stand before what is below p, and those behind it, before the splice and after it
  record Parted (p : ℕ) : Type 0 where
    front : List ℕ
    behind : List ℕ
    was : in_order old 0 ≡ front ++ (in_order old p ++ behind)
    is : in_order new 0 ≡ front ++ (in_order new p ++ behind)

  regroup : (f t m d b : List ℕ) (q : ℕ) → f ++ ((q ∷ (t ++ (m ++ d))) ++ b) ≡ (f ++ (q ∷ t)) ++ (m ++ (d ++ b))
  regroup f t m d b q = ap (λ (l : List ℕ). f ++ (q ∷ l)) (append_assoc t (m ++ d) b ∙ ap (λ l. t ++ l) (append_assoc m d b)) ∙ sym (append_assoc f (q ∷ t) (m ++ (d ++ b)))

  parted : (p : ℕ) → IsOver old 0 p → IsOver old p c → Parted p
  parted _ itself down = record { front = []; behind = []; was = sym (append-nil (in_order old 0)); is = sym (append-nil (in_order new 0)) }
  parted p (above {c = q} said over) down =
      let up : Parted q = parted q over (over_up old p q c said down) in
      let kids : List ℕ = children_at old q in
      let k : ℕ = place_at old p in
      let low : k < length kids = tree.within p q said in
      let ahead : List ℕ = take k kids in
      let rest : List ℕ = drop (k + 1) kids in
      let split : kids ≡ ahead ++ p ∷ rest = sym (take-append-drop k kids) ∙ ap (λ l. ahead ++ l) (drop_more kids k 0 low) ∙ ap (λ m. ahead ++ m ∷ rest) (tree.found p q said) in
      let apart : q ≢ c = λ e. not_over_parent old tree p q said (subst (IsOver old p) (sym e) down) in
      let same : children_at new q ≡ kids = (s.others q apart) in
      let there : q < length old = (parent_there old tree p q said).1 in
      let kept_ahead : flat_map (in_order new) ahead ≡ flat_map (in_order old) ahead =
      flat_map_same (in_order new) (in_order old) ahead (λ m h.
      let few : m < k = omega (arith, h, length-take k kids) in
      let at : get_or ahead m 0 ≡ get_or kids m 0 = get_or-take k kids m 0 few in
      order_kept (get_or ahead m 0) (λ o. sibling_not_over old tree p q m c said down (omega (arith, few, low)) (λ e. omega (arith, few, e)) (subst (λ x. IsOver old x c) at o))) in
      let kept_rest : flat_map (in_order new) rest ≡ flat_map (in_order old) rest =
      flat_map_same (in_order new) (in_order old) rest (λ m h.
      let at : get_or rest m 0 ≡ get_or kids (k + 1 + m) 0 = get_or-drop (k + 1) kids m 0 in
      order_kept (get_or rest m 0) (λ o. sibling_not_over old tree p q (k + 1 + m) c said down (omega (arith, h, length-drop (k + 1) kids)) (λ e. omega (arith, e)) (subst (λ x. IsOver old x c) at o))) in
      let below_old : in_order old q ≡ q ∷ (flat_map (in_order old) ahead ++ (in_order old p ++ flat_map (in_order old) rest)) =
      in_order_is old tree q there ∙ ap (λ l. q ∷ flat_map (in_order old) l) split ∙ ap (λ (l : List ℕ). q ∷ l) (flat_map-append (in_order old) ahead (p ∷ rest)) in
      let below_new : in_order new q ≡ q ∷ (flat_map (in_order old) ahead ++ (in_order new p ++ flat_map (in_order old) rest)) =
      in_order_is new after q (omega (arith, there, s.len)) ∙ ap (λ l. q ∷ flat_map (in_order new) l) (same ∙ split) ∙ ap (λ (l : List ℕ). q ∷ l) (flat_map-append (in_order new) ahead (p ∷ rest))
      ∙ ap (λ l. q ∷ (l ++ (in_order new p ++ flat_map (in_order new) rest))) kept_ahead ∙ ap (λ l. q ∷ (flat_map (in_order old) ahead ++ (in_order new p ++ l))) kept_rest in
      record {
        front = up.front ++ (q ∷ flat_map (in_order old) ahead);
        behind = flat_map (in_order old) rest ++ up.behind;
        was = up.was ∙ ap (λ l. up.front ++ (l ++ up.behind)) below_old ∙ regroup up.front (flat_map (in_order old) ahead) (in_order old p) (flat_map (in_order old) rest) up.behind q;
        is = up.is ∙ ap (λ l. up.front ++ (l ++ up.behind)) below_new ∙ regroup up.front (flat_map (in_order old) ahead) (in_order new p) (flat_map (in_order old) rest) up.behind q;
      }

  -- what stands before the stretch that is replaced, and behind it
  pub record SplicedOrder : Type 0 where
    pub front : List ℕ
    pub behind : List ℕ
    pub was : in_order old 0 ≡ front ++ (flat_map (in_order old) (slice_range (children_at old c) i j) ++ behind)
    pub is : in_order new 0 ≡ front ++ (flat_map (in_order new) xs ++ behind)

  kid_kept : (m : ℕ) → m < length (children_at old c) → in_order new (get_or (children_at old c) m 0) ≡ in_order old (get_or (children_at old c) m 0)
  kid_kept m h = order_kept (get_or (children_at old c) m 0) (not_over_parent old tree (get_or (children_at old c) m 0) c (tree.named c m h))

  pub spliced_order : c < length old → IsOver old 0 c → i ≤ j → SplicedOrder
  spliced_order there over le =
      let up : Parted c = parted c over itself in
      let kids : List ℕ = children_at old c in
      let ahead : List ℕ = take i kids in
      let gone : List ℕ = slice_range kids i j in
      let rest : List ℕ = drop j kids in
      let kept_ahead : flat_map (in_order new) ahead ≡ flat_map (in_order old) ahead =
      flat_map_same (in_order new) (in_order old) ahead (λ m h.
      let few : m < i = omega (arith, h, length-take i kids) in
      let at : get_or ahead m 0 ≡ get_or kids m 0 = get_or-take i kids m 0 few in
      subst (λ x. in_order new x ≡ in_order old x) (sym at) (kid_kept m (omega (arith, h, length-take i kids)))) in
      let kept_rest : flat_map (in_order new) rest ≡ flat_map (in_order old) rest =
      flat_map_same (in_order new) (in_order old) rest (λ m h.
      let at : get_or rest m 0 ≡ get_or kids (j + m) 0 = get_or-drop j kids m 0 in
      subst (λ x. in_order new x ≡ in_order old x) (sym at) (kid_kept (j + m) (omega (arith, h, length-drop j kids)))) in
      let parts : (f : ℕ → List ℕ) (mid : List ℕ) → flat_map f (ahead ++ (mid ++ rest)) ≡ flat_map f ahead ++ (flat_map f mid ++ flat_map f rest) =
      λ f mid. flat_map-append f ahead (mid ++ rest) ∙ ap (λ l. flat_map f ahead ++ l) (flat_map-append f mid rest) in
      let below_old : in_order old c ≡ c ∷ (flat_map (in_order old) ahead ++ (flat_map (in_order old) gone ++ flat_map (in_order old) rest)) =
      in_order_is old tree c there ∙ ap (λ l. c ∷ flat_map (in_order old) l) (split_between kids i j le) ∙ ap (λ (l : List ℕ). c ∷ l) (parts (in_order old) gone) in
      let below_new : in_order new c ≡ c ∷ (flat_map (in_order old) ahead ++ (flat_map (in_order new) xs ++ flat_map (in_order old) rest)) =
      in_order_is new after c (omega (arith, there, s.len)) ∙ ap (λ l. c ∷ flat_map (in_order new) l) s.children ∙ ap (λ (l : List ℕ). c ∷ l) (parts (in_order new) xs)
      ∙ ap (λ l. c ∷ (l ++ (flat_map (in_order new) xs ++ flat_map (in_order new) rest))) kept_ahead ∙ ap (λ l. c ∷ (flat_map (in_order old) ahead ++ (flat_map (in_order new) xs ++ l))) kept_rest in
      record {
        front = up.front ++ (c ∷ flat_map (in_order old) ahead);
        behind = flat_map (in_order old) rest ++ up.behind;
        was = up.was ∙ ap (λ l. up.front ++ (l ++ up.behind)) below_old ∙ regroup up.front (flat_map (in_order old) ahead) (flat_map (in_order old) gone) (flat_map (in_order old) rest) up.behind c;
        is = up.is ∙ ap (λ l. up.front ++ (l ++ up.behind)) below_new ∙ regroup up.front (flat_map (in_order old) ahead) (flat_map (in_order new) xs) (flat_map (in_order old) rest) up.behind c;
      }
