-- The order of a node has all below it, each once.
use Rattle.std.proofs.Common.{◌≡◌, ◌≢◌, ◌∙◌, ◌+◌, refl, sym, ap, subst, arith, ℕ, zero, suc, ◌<◌, List, [], ◌∷◌, ◌++◌, length, drop, get_or, take, Some, inl, inr, ◌↔◌}
use Rattle.std.specs.List.{All, AllPairs, Contains, flat_map}
use Rattle.std.proofs.lemmas.Grind.{flat_map-append}
use Rattle.std.proofs.lemmas.List.{append-nil, append_assoc, drop_more, get_or-map, get_or_default, length-map, take-append-drop}
use Rattle.std.proofs.lemmas.List.Elements.{All-append, All-contains, All-from_get_or, All-head, All-map, All-nil, All-tail, All-weaker, Contains-append_left, Contains-append_right}
use Rattle.std.proofs.lemmas.List.Kept.{AllPairs-cons}
use Rattle.jsonc_tree.specs.Tree.{Node, children_at, content_at, parent_at, place_at, IsOver, IsTree, above, itself}
use Rattle.jsonc_tree.specs.Order.{below, following, in_order, rest_at}
use Rattle.jsonc_tree.proofs.Order.{following_end, in_order_is, not_over_parent, not_over_sibling, parent_there}
use Rattle.jsonc_cst.specs.declared.cst.node.CstNode.{CstNode}
use Rattle.jsonc_cst.specs.Nodes.{number_of, typed_at, IsNodeOf}
use Rattle.jsonc_cst.specs.Readings.{typed_all}
use Rattle.jsonc_cst.proofs.Descendants.{IsUnder, below_under, order_under}
use Rattle.jsonc_cst.proofs.Family.{number_of-typed, typed_held}
use Rattle.jsonc_cst.proofs.RangedDescendants.{inner, over_either}

-- no two are the same
abbrev Once : {X : Type 0} → List X → Type 0
Once xs = AllPairs (λ x y. x ≢ y) xs

once_nil : {X : Type 0} → Once {X = X} []
once_nil i j d less within = absurd (omega (arith, within))

once_head : (x : ℕ) (xs : List ℕ) → Once (x ∷ xs) → All (λ y. x ≢ y) xs
once_head x xs h k d l = h 0 (suc k) d (omega arith) (omega (arith, l))

once_tail : (x : ℕ) (xs : List ℕ) → Once (x ∷ xs) → Once xs
once_tail x xs h i j d less within = h (suc i) (suc j) d (omega (arith, less)) (omega (arith, within))

once_append : (xs ys : List ℕ) → Once xs → Once ys → All (λ x. All (λ y. x ≢ y) ys) xs → Once (xs ++ ys)
once_append [] ys h k apart = k
once_append (x ∷ xs) ys h k apart =
    AllPairs-cons (λ a b. a ≢ b) x (xs ++ ys) (All-append (λ y. x ≢ y) xs ys (once_head x xs h) (All-head (λ a. All (λ y. a ≢ y) ys) x xs apart))
    (once_append xs ys (once_tail x xs h) k (All-tail (λ a. All (λ y. a ≢ y) ys) x xs apart))

-- the nodes of numbers that occur once
pub typed_once : (ns : List Node) (row : List ℕ) → Once row → Once (typed_all ns row)
typed_once ns row h i j d less within = λ e.
    let last : j < length row = omega (arith, within, length-map row (typed_at ns)) in
    let first : i < length row = omega (arith, less, last) in
    h i j 0 less last
    (sym (number_of-typed (content_at ns (get_or row i 0)) (get_or row i 0)) ∙ ap number_of (sym (get_or-map (typed_at ns) row i 0 d first) ∙ e ∙ get_or-map (typed_at ns) row j 0 d last)
    ∙ number_of-typed (content_at ns (get_or row j 0)) (get_or row j 0))

contains_first : {X : Type 0} (x : X) (xs : List X) → Contains (x ∷ xs) x
contains_first x xs = (0, omega arith, refl)

contains_typed : (ns : List Node) (row : List ℕ) (m : CstNode) → IsNodeOf ns m → Contains row (number_of m) → Contains (typed_all ns row) m
contains_typed ns row m node c = (c.0, omega (arith, c.1, length-map row (typed_at ns)), get_or-map (typed_at ns) row c.0 (number_of m) m c.1 ∙ ap (typed_at ns) c.2 ∙ node.1)

module _ (ns : List Node) (tree : IsTree ns) where
  -- a child of the node n
  IsChild : ℕ → ℕ → Type 0
  IsChild n c = (c < length ns) × (parent_at ns c ≡ Some n)

  children_of : (n : ℕ) → All (IsChild n) (children_at ns n)
  unfolding IsChild
  children_of n = All-from_get_or (IsChild n) (children_at ns n) 0 (λ i l. (tree.in_tree n i l, tree.named n i l))

  children_once : (n : ℕ) → Once (children_at ns n)
  children_once n i j d less within = λ e.
      let first : i < length (children_at ns n) = omega (arith, less, within) in
      omega (arith, less, tree.placed n i first, tree.placed n j within, ap (place_at ns) (get_or_default (children_at ns n) i 0 d first ∙ e ∙ sym (get_or_default (children_at ns n) j 0 d within)))

  -- what is below one child is below no sibling of it
  siblings_apart : (n c b x y : ℕ) → IsChild n c → IsChild n b → c ≢ b → IsUnder ns c x → IsUnder ns b y → x ≢ y
  unfolding IsChild
  siblings_apart n c b x y child other ne up on e = elim (over_either ns c b x up.1 (subst (IsOver ns b) (sym e) on.1)) [
    | inl over ↦ not_over_sibling ns tree c b n child.1 other.1 ne over
    | inr over ↦ not_over_sibling ns tree b c n other.1 child.1 (λ s. ne (sym s)) over
  ]

  apart_all : (depth n c x : ℕ) → IsChild n c → IsUnder ns c x → (cs : List ℕ) → All (IsChild n) cs → All (λ b. c ≢ b) cs → All (λ y. x ≢ y) (flat_map (below depth ns) cs)
  unfolding IsChild
  apart_all depth n c x child up [] h ne = All-nil (λ y. x ≢ y)
  apart_all depth n c x child up (b ∷ cs) h ne =
      let other : IsChild n b = All-head (IsChild n) b cs h in
      let apart : c ≢ b = All-head (λ k. c ≢ k) b cs ne in
      All-append (λ y. x ≢ y) (below depth ns b) (flat_map (below depth ns) cs)
      (All-weaker (IsUnder ns b) (λ y. x ≢ y) (λ y on. siblings_apart n c b x y child other apart up on) (below depth ns b) (below_under ns tree depth b b (other.0, itself)))
      (apart_all depth n c x child up cs (All-tail (IsChild n) b cs h) (All-tail (λ k. c ≢ k) b cs ne))

  -- a node is not below its children
  none_itself : (depth n : ℕ) (cs : List ℕ) → All (IsChild n) cs → All (λ y. n ≢ y) (flat_map (below depth ns) cs)
  unfolding IsChild
  none_itself depth n [] h = All-nil (λ y. n ≢ y)
  none_itself depth n (c ∷ cs) h =
      let child : IsChild n c = All-head (IsChild n) c cs h in
      All-append (λ y. n ≢ y) (below depth ns c) (flat_map (below depth ns) cs)
      (All-weaker (IsUnder ns c) (λ y. n ≢ y) (λ y on e. not_over_parent ns tree c n child.1 (subst (IsOver ns c) (sym e) on.1)) (below depth ns c) (below_under ns tree depth c c (child.0, itself)))
      (none_itself depth n cs (All-tail (IsChild n) c cs h))

  flat_once : (depth n : ℕ) → ((c : ℕ) → c < length ns → Once (below depth ns c)) → (cs : List ℕ) → All (IsChild n) cs → Once cs → Once (flat_map (below depth ns) cs)
  unfolding IsChild
  flat_once depth n inside [] h k = once_nil
  flat_once depth n inside (c ∷ cs) h k =
      let child : IsChild n c = All-head (IsChild n) c cs h in
      once_append (below depth ns c) (flat_map (below depth ns) cs) (inside c child.0) (flat_once depth n inside cs (All-tail (IsChild n) c cs h) (once_tail c cs k))
      (All-weaker (IsUnder ns c) (λ x. All (λ y. x ≢ y) (flat_map (below depth ns) cs)) (λ x up. apart_all depth n c x child up cs (All-tail (IsChild n) c cs h) (once_head c cs k)) (below depth ns c) (below_under ns tree depth c c (child.0, itself)))

  below_once : (depth n : ℕ) → n < length ns → Once (below depth ns n)
  below_once zero n h = once_nil
  below_once (suc depth) n h =
      AllPairs-cons (λ a b. a ≢ b) n (flat_map (below depth ns) (children_at ns n)) (none_itself depth n (children_at ns n) (children_of n)) (flat_once depth n (below_once depth) (children_at ns n) (children_of n) (children_once n))

  pub order_once : (n : ℕ) → n < length ns → Once (in_order ns n)
  unfolding in_order
  order_once n h = below_once (length ns) n h

  children_split : (n c : ℕ) → parent_at ns n ≡ Some c → children_at ns c ≡ take (place_at ns n) (children_at ns c) ++ n ∷ drop (place_at ns n + 1) (children_at ns c)
  children_split n c said =
      let cs : List ℕ = children_at ns c in
      let k : ℕ = place_at ns n in
      sym (take-append-drop k cs) ∙ ap (λ l. take k cs ++ l) (drop_more cs k 0 (tree.within n c said) ∙ ap (λ m. m ∷ drop (k + 1) cs) (tree.found n c said))

  -- the nodes from one on end all below `end`
  ends_all : (end n : ℕ) → end < length ns → IsOver ns end n → (front : List ℕ) × (in_order ns end ≡ front ++ rest_at ns end (Some n))
  ends_all end _ h itself = ([], sym (ap (λ l. in_order ns end ++ l) (following_end ns tree end h) ∙ append-nil (in_order ns end)))
  ends_all end n h (above {c = c} said over) =
      let up = ends_all end c h over in
      let cs : List ℕ = children_at ns c in
      let k : ℕ = place_at ns n in
      let left : List ℕ = flat_map (in_order ns) (take k cs) in
      let right : List ℕ = flat_map (in_order ns) (drop (k + 1) cs) in
      let ne : n ≢ end = λ e. not_over_parent ns tree end c (subst (λ m. parent_at ns m ≡ Some c) e said) over in
      let inside : in_order ns c ≡ c ∷ (left ++ (in_order ns n ++ right)) =
      in_order_is ns tree c (parent_there ns tree n c said).1 ∙ ap (λ l. c ∷ flat_map (in_order ns) l) (children_split n c said) ∙ ap (λ l. c ∷ l) (flat_map-append (in_order ns) (take k cs) (n ∷ drop (k + 1) cs)) in (
        up.0 ++ (c ∷ left),
        up.1 ∙ ap (λ l. up.0 ++ (l ++ following ns end c)) inside
            ∙ ap (λ l. up.0 ++ (c ∷ l)) (append_assoc left (in_order ns n ++ right) (following ns end c) ∙ ap (λ l. left ++ l) (append_assoc (in_order ns n) right (following ns end c)))
            ∙ ap (λ l. up.0 ++ (c ∷ (left ++ (in_order ns n ++ l)))) (sym (inner ns tree end n c ne said))
            ∙ sym (append_assoc up.0 (c ∷ left) (in_order ns n ++ following ns end n)),
      )

  pub order_has : (end n : ℕ) → end < length ns → n < length ns → IsOver ns end n → Contains (in_order ns end) n
  order_has end n h there over =
      let all = ends_all end n h over in
      let here : Contains (in_order ns n) n = subst (λ l. Contains l n) (sym (in_order_is ns tree n there)) (contains_first n (flat_map (in_order ns) (children_at ns n))) in
      subst (λ l. Contains l n) (sym all.1) (Contains-append_right all.0 (rest_at ns end (Some n)) n (Contains-append_left (in_order ns n) (following ns end n) n here))

  pub descendants_are : (n : ℕ) → n < length ns → (m : CstNode) → Contains (typed_all ns (in_order ns n)) m ↔ (IsNodeOf ns m × IsOver ns n (number_of m))
  descendants_are n h m = (
    λ c.
        All-contains (λ k. IsNodeOf ns k × IsOver ns n (number_of k)) (typed_all ns (in_order ns n)) m
        (All-map (λ k. IsNodeOf ns k × IsOver ns n (number_of k)) (typed_at ns) (in_order ns n)
        (All-weaker (IsUnder ns n) (λ k. IsNodeOf ns (typed_at ns k) × IsOver ns n (number_of (typed_at ns k))) (λ k u. (typed_held ns k u.0, subst (IsOver ns n) (sym (number_of-typed (content_at ns k) k)) u.1)) (in_order ns n) (order_under ns tree n h))) c,
    λ x. contains_typed ns (in_order ns n) m x.0 (order_has n (number_of m) h x.0.0 x.1),
  )
