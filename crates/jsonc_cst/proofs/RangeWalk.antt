-- A walk over the nodes that counts what they print.
use Rattle.std.proofs.Common.{◌≡◌, ◌≢◌, ◌∙◌, refl, sym, ap, subst, arith, ℕ, ◌+◌, ◌<◌, ◌≤◌, List, [], ◌∷◌, ◌++◌, length, take, drop, Option, Some, None, Bool, true, false, cond, eqb, IsTrue, IfSome, SomeIff, ◌||◌, ◌^◌, inl, inr, eq-eqb}
use Rattle.std.specs.List.{flat_map}
use Rattle.std.proofs.lemmas.Bool.{cases_lt, ne_eqb}
use Rattle.std.proofs.lemmas.Grind.{flat_map-append}
use Rattle.std.proofs.lemmas.List.{append-nil, append_assoc, drop_more, length-append, take-append-drop}
use Rattle.jsonc_tree.specs.Tree.{Node, children_at, content_at, is_container_at, is_in, parent_at, place_at, IsOver, IsTree, itself, above}
use Rattle.jsonc_tree.specs.Content.{Content, is_container, text_of}
use Rattle.jsonc_tree.specs.Order.{following, in_order, printed_at, rest_at, text_at, with_parent}
use Rattle.jsonc_tree.specs.OrderedTree.{ordered_tree, printed}
use Rattle.jsonc_tree.proofs.Order.{following_end, following_is, in_order_is, parent_there}
use Rattle.jsonc_tree.proofs.OrderedTrees.{printed_at-ordered_tree}
use Rattle.jsonc_cst.specs.Ranges.{IsBefore, PrintsByte}

-- a walk over what is below `end` is at this node, or is done, and what it has passed prints so many bytes
pub record HasCounted (ns : List Node) (end count : ℕ) (next : Option ℕ) : Type 0 where
  pub done : List ℕ
  pub split : printed_at ns end ≡ done ++ flat_map (text_at ns) (rest_at ns end next)
  pub size : length done ≡ count

-- what holds of the node that is there
pub held : (P : ℕ → Type 0) (o : Option ℕ) (n : ℕ) → o ≡ Some n → IfSome o P → P n
held P o n e h = subst (λ (x : Option ℕ). IfSome x P) e h

-- a sum that is too large for memory
pub too_large : (sum : Option ℕ) (count own bound : ℕ) → SomeIff sum (count + own < 2 ^ 64) (count + own) → sum ≡ None → count + own ≤ bound → 2 ^ 64 ≤ bound
too_large (Some x) count own bound h e few = let wrong : None ≡ Some x = sym e in cc
too_large None count own bound h e few = elim (cases_lt (count + own) (2 ^ 64)) [ inl less ↦ absurd (h less) | inr more ↦ omega (arith, more, few) ]

pub right_sum : (sum : Option ℕ) (count own n : ℕ) → SomeIff sum (count + own < 2 ^ 64) (count + own) → sum ≡ Some n → count + own ≡ n
right_sum None count own n h e = let wrong : None ≡ Some n = e in cc
right_sum (Some x) count own n h e = let same : x ≡ n = cc in sym h.1 ∙ same

module _ (ns : List Node) (tree : IsTree ns) where
  pub begins : (end : ℕ) → end < length ns → HasCounted ns end 0 (Some end)
  begins end h = record {
    done = [];
    split = sym (ap (flat_map (text_at ns)) (ap (λ l. in_order ns end ++ l) (following_end ns tree end h) ∙ append-nil (in_order ns end)));
    size = refl;
  }

  pub goes_on : (end count n : ℕ) (next after : Option ℕ) (content : Content) (own : ℕ) → HasCounted ns end count next → next ≡ Some n → rest_at ns end (Some n) ≡ n ∷ rest_at ns end after
      → content ≡ content_at ns n → own ≡ length (text_of content) → HasCounted ns end (count + own) after
  goes_on end count n next after content own w here rest same size = record {
    done = w.done ++ text_at ns n;
    split = w.split ∙ ap (λ l. w.done ++ flat_map (text_at ns) l) (ap (rest_at ns end) here ∙ rest) ∙ sym (append_assoc w.done (text_at ns n) (flat_map (text_at ns) (rest_at ns end after)));
    size = omega (arith, length-append w.done (text_at ns n), w.size, size, ap (λ (c : Content). length (text_of c)) same);
  }

  -- all of it is passed
  pub counted_all : (end count : ℕ) (next : Option ℕ) → HasCounted ns end count next → next ≡ None → count ≡ length (printed_at ns end)
  counted_all end count next w over = omega (arith, w.size, ap length (w.split ∙ ap (λ o. w.done ++ flat_map (text_at ns) (rest_at ns end o)) over ∙ append-nil w.done))

  -- what is passed and the next node print no more than all
  pub no_more : (end count n : ℕ) (next : Option ℕ) (content : Content) (own : ℕ) → HasCounted ns end count next → next ≡ Some n → n < length ns → content ≡ content_at ns n → own ≡ length (text_of content) → count + own ≤ length (printed_at ns end)
  no_more end count n next content own w here in_tree same size =
      let later : List ℕ = flat_map (text_at ns) (flat_map (in_order ns) (children_at ns n) ++ following ns end n) in
      let rest : flat_map (text_at ns) (rest_at ns end next) ≡ text_at ns n ++ later =
      ap (λ o. flat_map (text_at ns) (rest_at ns end o)) here ∙ ap (λ l. flat_map (text_at ns) (l ++ following ns end n)) (in_order_is ns tree n in_tree) in
      omega (arith, w.size, size, ap (λ (c : Content). length (text_of c)) same, ap length (w.split ∙ ap (λ l. w.done ++ l) rest), length-append w.done (text_at ns n ++ later), length-append (text_at ns n) later)

  -- the walk over the document is at a node
  pub stands_at : (count n : ℕ) (next : Option ℕ) → HasCounted ns 0 count next → next ≡ Some n → IsOver ns 0 n → IsBefore ns n count
  stands_at count n next w here over = record {
    in_document = over;
    before = w.done;
    split = sym (printed_at-ordered_tree ns tree 0 tree.first) ∙ w.split ∙ ap (λ o. w.done ++ flat_map (text_at ns) (rest_at ns 0 o)) here ∙ ap (λ l. w.done ++ l) (flat_map-append (text_at ns) (in_order ns n) (following ns 0 n));
    starts = sym w.size;
    ends = ap (λ k. k + length (printed_at ns n)) (sym w.size);
  }

  pub whole_size : (n : ℕ) → n < length ns → length (printed_at ns n) ≡ length (printed (ordered_tree ns n))
  whole_size n h = ap length (printed_at-ordered_tree ns tree n h)

  own_first : (n : ℕ) → n < length ns → length (text_at ns n) ≤ length (printed_at ns n)
  own_first n h =
      let later : List ℕ = flat_map (text_at ns) (flat_map (in_order ns) (children_at ns n)) in
      omega (arith, ap (λ l. length (flat_map (text_at ns) l)) (in_order_is ns tree n h), length-append (text_at ns n) later)

  is_leaf : (n : ℕ) → 0 < length (text_at ns n) → is_container_at ns n ≡ false
  is_leaf n some = go (content_at ns n) some
    where
      go : (c : Content) → 0 < length (text_of c) → is_container c ≡ false
      go Content.root h = absurd (omega (arith, h))
      go Content.object h = absurd (omega (arith, h))
      go Content.array h = absurd (omega (arith, h))
      go Content.property h = absurd (omega (arith, h))
      go (Content.string s) h = refl
      go (Content.word s) h = refl
      go (Content.number s) h = refl
      go (Content.boolean b) h = refl
      go Content.null h = refl
      go (Content.token c) h = refl
      go (Content.whitespace s) h = refl
      go (Content.newline k) h = refl
      go (Content.comment s) h = refl

  -- and the byte that is looked for is one of the node's own
  pub byte_here : (place left count n : ℕ) (next : Option ℕ) (content : Content) (own : ℕ) → HasCounted ns 0 count next → count + left ≡ place → next ≡ Some n → IsOver ns 0 n → n < length ns
      → content ≡ content_at ns n → own ≡ length (text_of content) → left < own → PrintsByte ns place n
  byte_here place left count n next content own w sum here over in_tree same size less =
      let whole : own ≡ length (text_at ns n) = size ∙ ap (λ (c : Content). length (text_of c)) same in
      (tree.leaf n (is_leaf n (omega (arith, whole, less))), count, count + length (printed_at ns n), stands_at count n next w here over, omega (arith, sum), omega (arith, sum, whole, less, own_first n in_tree))

  -- what is printed from a node of the document on ends what is printed by all
  following_under : (n c : ℕ) → parent_at ns n ≡ Some c → following ns 0 n ≡ flat_map (in_order ns) (drop (place_at ns n + 1) (children_at ns c)) ++ following ns 0 c
  following_under n c said =
      let ne : n ≢ 0 = λ e. (let wrong : None ≡ Some c = sym tree.root_alone ∙ sym (ap (parent_at ns) e) ∙ said in cc) in
      following_is ns tree 0 n (parent_there ns tree n c said).0
      ∙ ap (λ b. cond b [] (with_parent (parent_at ns n) (λ q. flat_map (in_order ns) (drop (place_at ns n + 1) (children_at ns q)) ++ following ns 0 q))) (ne_eqb n 0 ne)
      ∙ ap (λ o. with_parent o (λ q. flat_map (in_order ns) (drop (place_at ns n + 1) (children_at ns q)) ++ following ns 0 q)) said

  children_split : (n c : ℕ) → parent_at ns n ≡ Some c → children_at ns c ≡ take (place_at ns n) (children_at ns c) ++ n ∷ drop (place_at ns n + 1) (children_at ns c)
  children_split n c said =
      let cs : List ℕ = children_at ns c in
      let k : ℕ = place_at ns n in
      sym (take-append-drop k cs) ∙ ap (λ l. take k cs ++ l) (drop_more cs k 0 (tree.within n c said) ∙ ap (λ m. m ∷ drop (k + 1) cs) (tree.found n c said))

  -- and the nodes from it on end all of them
  pub ends_all : (n : ℕ) → IsOver ns 0 n → (front : List ℕ) × (in_order ns 0 ≡ front ++ rest_at ns 0 (Some n))
  ends_all n itself = ([], sym (ap (λ l. in_order ns 0 ++ l) (following_end ns tree 0 tree.first) ∙ append-nil (in_order ns 0)))
  ends_all n (above {c = c} said over) =
      let up = ends_all c over in
      let cs : List ℕ = children_at ns c in
      let k : ℕ = place_at ns n in
      let left : List ℕ = flat_map (in_order ns) (take k cs) in
      let right : List ℕ = flat_map (in_order ns) (drop (k + 1) cs) in
      let inside : in_order ns c ≡ c ∷ (left ++ (in_order ns n ++ right)) =
      in_order_is ns tree c (parent_there ns tree n c said).1 ∙ ap (λ l. c ∷ flat_map (in_order ns) l) (children_split n c said) ∙ ap (λ l. c ∷ l) (flat_map-append (in_order ns) (take k cs) (n ∷ drop (k + 1) cs)) in (
        up.0 ++ (c ∷ left),
        up.1 ∙ ap (λ l. up.0 ++ (l ++ following ns 0 c)) inside
            ∙ ap (λ l. up.0 ++ (c ∷ l)) (append_assoc left (in_order ns n ++ right) (following ns 0 c) ∙ ap (λ l. left ++ l) (append_assoc (in_order ns n) right (following ns 0 c)))
            ∙ ap (λ l. up.0 ++ (c ∷ (left ++ (in_order ns n ++ l)))) (sym (following_under n c said))
            ∙ sym (append_assoc up.0 (c ∷ left) (in_order ns n ++ following ns 0 n)),
      )

  is_in_append : (m : ℕ) (xs ys : List ℕ) → IsTrue (is_in m ys) → IsTrue (is_in m (xs ++ ys))
  is_in_append m [] ys h = h
  is_in_append m (x ∷ xs) ys h = or_right (eqb m x) (is_in m (xs ++ ys)) (is_in_append m xs ys h)
    where
      or_right : (a b : Bool) → IsTrue b → IsTrue (a || b)
      or_right true b h = refl
      or_right false b h = h

  is_in_first : (m : ℕ) (xs : List ℕ) → IsTrue (is_in m (m ∷ xs))
  is_in_first m xs = subst (λ b. IsTrue (b || is_in m xs)) (sym (eq-eqb m m refl)) refl

  pub is_ahead : (n : ℕ) → n < length ns → IsOver ns 0 n → IsTrue (is_in n (rest_at ns 0 (Some 0)))
  is_ahead n h over =
      let all = ends_all n over in
      let here : IsTrue (is_in n (rest_at ns 0 (Some n))) =
      subst (λ l. IsTrue (is_in n (l ++ following ns 0 n))) (sym (in_order_is ns tree n h)) (is_in_first n (flat_map (in_order ns) (children_at ns n) ++ following ns 0 n)) in
      subst (λ l. IsTrue (is_in n l)) (sym (ap (λ l. in_order ns 0 ++ l) (following_end ns tree 0 tree.first) ∙ append-nil (in_order ns 0) ∙ all.1)) (is_in_append n all.0 (rest_at ns 0 (Some n)) here)

  pub still_ahead : (n at : ℕ) (next after : Option ℕ) → IsTrue (is_in n (rest_at ns 0 next)) → next ≡ Some at → rest_at ns 0 (Some at) ≡ at ∷ rest_at ns 0 after → (at ≡ n → ⊥) → IsTrue (is_in n (rest_at ns 0 after))
  still_ahead n at next after h here rest ne =
      let first : IsTrue (eqb n at || is_in n (rest_at ns 0 after)) = subst (λ l. IsTrue (is_in n l)) (ap (rest_at ns 0) here ∙ rest) h in
      subst (λ b. IsTrue (b || is_in n (rest_at ns 0 after))) (ne_eqb n at (λ e. ne (sym e))) first
