-- What one node's coming or going does to the stored nodes and to what they show.
use Rattle.std.proofs.Common.{◌≡◌, ◌≢◌, ◌||◌, ◌^◌, Bool, ℕ, suc, ◌+◌, ◌-◌, ◌<◌, ◌≤◌, List, [], ◌∷◌, length, get_or, map, cond, true, Option, None, Some, IfSome, inl, inr, slice_get, slice_range, refl, sym, ap, subst, ◌∙◌, arith, eq-eqb}
use Rattle.std.specs.List.{range_with_len}
use Rattle.std.proofs.lemmas.Bool.{cases_lt, cases_Bool, ne_eqb}
use Rattle.std.proofs.lemmas.Option.{slice_get-get_or, slice_get_within}
use Rattle.std.proofs.lemmas.List.{get_or_past, length-map, nil_from_length}
use Rattle.std.proofs.lemmas.List.FromFn.{get_or-map-range_with_len, length-range_with_len}
use Rattle.std.proofs.lemmas.List.Edits.{length-between, get_or-between}
use Rattle.jsonc_tree.specs.Content.{is_newline}
use Rattle.jsonc_tree.specs.Tree as tree
use Rattle.jsonc_tree.specs.Tree.{Node, children_at, parent_at, content_at, is_in, is_container_at, is_newline_at, IsTreeBy, IsTree, place_at, place_under, IsOver}
use Rattle.jsonc_tree.specs.Changes.{Splices, CanJoin, CanAppend}
use Rattle.jsonc_tree.proofs.SameLinks.{IsTreeBy-same, IsTree-from}
use Rattle.jsonc_tree.proofs.Splicing.{spliced_nodes, spliced_places, spliced_tree, spliced_facts, in_at, out_from}
use Rattle.jsonc_tree.proofs.Appending.{CanJoin-one}
use Rattle.jsonc_tree.specs.Stored.{link_at, nodes_of, ahead_at, back_at, ahead_set, back_set, place_set, counted_in, counted_out, line_ends, one_if, IsStored, LinkedNode}
use Rattle.jsonc_tree.specs.Siblings.{before, IsGap}
use Rattle.jsonc_tree.proofs.Gaps.{at_there}
use Rattle.jsonc_tree.proofs.Written.{relinked, content_kept, lines_kept}
use Rattle.jsonc_tree.proofs.AgreeingLinks.{Agrees, agrees, content_shown, shown_is, stored_by, length_shown, row_shorter}
use Rattle.jsonc_tree.proofs.LineEnds.{Counts, counted_agrees, counts_came, counts_went, line_ends-short, line_ends-went}
use Rattle.jsonc_tree.proofs.Relinking.{came_agrees, went_agrees, before_there, place_there}

-- the places of the nodes as a list
places_in : List Node → List ℕ
places_in ns = map (place_at ns) (range_with_len 0 (length ns))

length-places : (ns : List Node) → length (places_in ns) ≡ length ns
unfolding places_in
length-places ns = length-map (range_with_len 0 (length ns)) (place_at ns) ∙ length-range_with_len 0 (length ns)

places_are : (ns : List Node) (n : ℕ) → get_or (places_in ns) n 0 ≡ place_at ns n
unfolding places_in
places_are ns n =
    elim (cases_lt n (length ns)) [
      | inl h ↦ get_or-map-range_with_len (place_at ns) 0 (length ns) n n 0 h (omega arith)
      | inr h ↦
          get_or_past (places_in ns) n 0 (omega (arith, length-places ns))
          ∙ sym (ap (place_under ns n) (ap (λ (x : Node). x.parent) (get_or_past ns n tree.nowhere h)))
    ]

-- there is a tree that a splice makes
pub spliced : (ns : List Node) (c i j : ℕ) (xs : List ℕ) → IsTree ns → c < length ns → is_container_at ns c ≡ true → i ≤ j → j ≤ length (children_at ns c) → CanJoin ns c i j xs → (new : List Node) × Splices ns new c i j xs × IsTree new
spliced ns c i j xs t at holds order inside join =
    let stored : IsTreeBy ns (λ n. get_or (places_in ns) n 0) = IsTreeBy-same ns ns (place_at ns) (λ n. get_or (places_in ns) n 0) (omega arith) (λ k. refl) (λ k. refl) (places_are ns) t.root_first t.leaf t in (
      spliced_nodes ns c i j xs,
      spliced_facts ns (places_in ns) c i j xs stored (length-places ns) at order inside join,
      IsTree-from (spliced_nodes ns c i j xs) (λ n. get_or (spliced_places ns (places_in ns) c i j xs) n 0) (spliced_tree ns (places_in ns) c i j xs stored (length-places ns) at order inside join holds),
    )

-- an empty splice asks nothing
pub CanJoin-none : (ns : List Node) (c i j : ℕ) → CanJoin ns c i j []
CanJoin-none ns c i j = record {
  in_tree = λ k h. absurd (omega arith);
  not_root = λ k h. absurd (omega arith);
  once = λ a b ha hb e. omega arith;
  free = λ k h. absurd (omega arith);
  not_over = λ k h over. absurd (omega arith);
}

nothing_between : (xs : List ℕ) (k : ℕ) → k ≤ length xs → slice_range xs k k ≡ []
nothing_between xs k h = nil_from_length (slice_range xs k k) (omega (arith, length-between xs k k h))

-- whose parent a splice changes
pub parent_came : (ns new : List Node) (c g x : ℕ) → g ≤ length (children_at ns c) → Splices ns new c g g (x ∷ []) → (parent_at new x ≡ Some c) × ((n : ℕ) → n ≢ x → parent_at new n ≡ parent_at ns n)
parent_came ns new c g x inside splices = (
  splices.parents x ∙ ap (λ b. cond (b || is_in x []) (Some c) (cond (is_in x (slice_range (children_at ns c) g g)) None (parent_at ns x))) (eq-eqb x x refl),
  λ n ne.
      splices.parents n
      ∙ ap (λ b. cond (b || is_in n []) (Some c) (cond (is_in n (slice_range (children_at ns c) g g)) None (parent_at ns n))) (ne_eqb n x ne)
      ∙ ap (λ l. cond (is_in n l) None (parent_at ns n)) (nothing_between (children_at ns c) g inside),
)

pub parent_went : (ns new : List Node) (c g x : ℕ) → slice_get (children_at ns c) g ≡ Some x → Splices ns new c g (suc g) [] → (parent_at new x ≡ None) × ((n : ℕ) → n ≢ x → parent_at new n ≡ parent_at ns n)
parent_went ns new c g x stood splices =
    let inside = slice_get_within (children_at ns c) g x stood in
    let wide : length (slice_range (children_at ns c) g (suc g)) ≡ 1 = omega (arith, length-between (children_at ns c) g (suc g) (omega arith)) in
    let at_zero : get_or (slice_range (children_at ns c) g (suc g)) 0 0 ≡ get_or (children_at ns c) g 0 = get_or-between (children_at ns c) g (suc g) 0 0 (omega arith) ∙ ap (λ m. get_or (children_at ns c) m 0) (omega arith) in
    let is : get_or (children_at ns c) g 0 ≡ x = let both : Some (get_or (children_at ns c) g 0) ≡ Some x = sym (slice_get-get_or (children_at ns c) g 0 inside) ∙ stood in cc in (
      splices.parents x ∙ ap (λ b. cond b None (parent_at ns x)) (ap (λ m. is_in m (slice_range (children_at ns c) g (suc g))) (sym (at_zero ∙ is)) ∙ in_at (slice_range (children_at ns c) g (suc g)) 0 (omega arith)),
      λ n ne. splices.parents n ∙ ap (λ b. cond b None (parent_at ns n)) (out_from n (slice_range (children_at ns c) g (suc g)) (λ m h e.
          let first : m ≡ 0 = omega arith in
          ne (sym e ∙ ap (λ k. get_or (slice_range (children_at ns c) g (suc g)) k 0) first ∙ at_zero ∙ is))),
    )

-- what is there has a number that a link can say
pub in_memory : (o : Option ℕ) (size : ℕ) → IfSome o (λ n. n < size) → size ≤ 2 ^ 32 - 1 → IfSome o (λ n. n < 2 ^ 32 - 1)
in_memory None size h le = tt
in_memory (Some n) size h le = omega (arith, h)

-- a child's container is there and is one, and the child stands in its row
pub in_row : (ns : List Node) → IsTree ns → (x c : ℕ) → parent_at ns x ≡ Some c → (c < length ns) × (is_container_at ns c ≡ true) × (slice_get (children_at ns c) (place_at ns x) ≡ Some x)
in_row ns t x c said =
    let inn = t.within x c said in (
      elim (cases_lt c (length ns)) [
        | inl h ↦ h
        | inr h ↦ absurd (omega (arith, inn, ap (λ (n : Node). length n.children) (get_or_past ns c tree.nowhere h)))
      ],
      elim (cases_Bool (is_container_at ns c)) [
        | inl e ↦ e
        | inr e ↦ absurd (omega (arith, inn, ap length (t.leaf c e)))
      ],
      slice_get-get_or (children_at ns c) (place_at ns x) 0 inn ∙ ap Some (t.found x c said),
    )

module _ (l0 l1 l2 l3 : List LinkedNode) (c x : ℕ) (b a s t p q r : Option ℕ) where
  -- the three steps make the whole
  pub three : l1 ≡ ahead_set l0 c b s → l2 ≡ back_set l1 c a t → l3 ≡ place_set l2 x p q r → l3 ≡ relinked l0 c b a s t x p q r
  three e f g = g ∙ ap (λ l. place_set l x p q r) (f ∙ ap (λ l. back_set l c a t) e)

module _ (ls : List LinkedNode) (ok : IsStored ls) where
  -- the neighbours of a node
  pub next_is : (x c : ℕ) → parent_at (nodes_of ls) x ≡ Some c → (link_at ls x).next ≡ slice_get (children_at (nodes_of ls) c) (suc (place_at (nodes_of ls) x))
  next_is x c said =
      let row : List ℕ = children_at (nodes_of ls) c in
      let k : ℕ = place_at (nodes_of ls) x in
      let inn = ok.tree.within x c said in
      let is : slice_get row k ≡ Some x = slice_get-get_or row k 0 inn ∙ ap Some (ok.tree.found x c said) in
      ap (ahead_at ls c) (sym is) ∙ ok.linked.ahead c (suc k) (omega arith)

  pub previous_is : (x c : ℕ) → parent_at (nodes_of ls) x ≡ Some c → (link_at ls x).previous ≡ before (children_at (nodes_of ls) c) (place_at (nodes_of ls) x)
  previous_is x c said =
      let row : List ℕ = children_at (nodes_of ls) c in
      let k : ℕ = place_at (nodes_of ls) x in
      let inn = ok.tree.within x c said in
      let is : slice_get row k ≡ Some x = slice_get-get_or row k 0 inn ∙ ap Some (ok.tree.found x c said) in
      ap (back_at ls c) (sym is) ∙ ok.linked.back c k (omega arith)

  -- a node that stands alone comes into a gap, and is counted
  pub comes : (c g x : ℕ) (b a : Option ℕ) (w : Bool) → CanAppend (nodes_of ls) c x → IsGap (nodes_of ls) c g b a → w ≡ is_newline (link_at (relinked ls c b a (Some x) (Some x) x (Some c) b a) x).content → Splices (nodes_of ls) (nodes_of (counted_in (relinked ls c b a (Some x) (Some x) x (Some c) b a) c w)) c g g (x ∷ []) × IsStored (counted_in (relinked ls c b a (Some x) (Some x) x (Some c) b a) c w)
  comes c g x b a w can gap weighed =
      let ns : List Node = nodes_of ls in
      let row : List ℕ = children_at ns c in
      let same = agrees ls ok in
      let join = CanJoin-one ns x c g g can.node can.not_root can.alone can.not_over in
      let made = spliced ns c g g (x ∷ []) ok.tree can.container can.holds (omega arith) gap.inside join in
      let new : List Node = made.0 in
      let moved = parent_came ns new c g x gap.inside made.1 in
      let fits : Agrees (relinked ls c (before row g) (slice_get row g) (Some x) (Some x) x (Some c) (before row g) (slice_get row g)) new = came_agrees ls ns new ok.tree same c g x can.container can.node made.1.len made.1.content made.1.others moved.1 gap.inside can.alone made.1.children moved.0 in
      let links : List LinkedNode = relinked ls c b a (Some x) (Some x) x (Some c) b a in
      let linked : Agrees links new = rw (gap.front, gap.back) fits in
      let is : w ≡ is_newline_at ns x = weighed ∙ ap is_newline (linked.content x (omega (arith, can.node, made.1.len)) ∙ made.1.content x) in
      let here : Agrees (counted_in links c w) new = counted_agrees links c _ new linked in
      let counts : Counts (counted_in links c w) new = subst (λ u. Counts (counted_in links c u) new) (sym is) (counts_came links ns new c g x (omega (arith, can.container, linked.len, made.1.len)) made.1.content made.1.others (λ d. lines_kept ls c b a (Some x) (Some x) x (Some c) b a d ∙ ok.lines d) made.1.children) in (
        subst (λ (l : List Node). Splices ns l c g g (x ∷ [])) (sym (shown_is _ new made.2 here)) made.1,
        stored_by _ new made.2 here counts (omega (arith, ok.few, here.len, made.1.len, length_shown ls)),
      )

  -- a child goes out of its row, and is counted no more
  pub goes : (c g x : ℕ) (b a : Option ℕ) (w : Bool) → c < length (nodes_of ls) → is_container_at (nodes_of ls) c ≡ true → slice_get (children_at (nodes_of ls) c) g ≡ Some x → b ≡ before (children_at (nodes_of ls) c) g → a ≡ slice_get (children_at (nodes_of ls) c) (suc g) → w ≡ is_newline (link_at (relinked ls c b a a b x None None None) x).content → Splices (nodes_of ls) (nodes_of (counted_out (relinked ls c b a a b x None None None) c w)) c g (suc g) [] × IsStored (counted_out (relinked ls c b a a b x None None None) c w)
  goes c g x b a w at holds stood front back weighed =
      let ns : List Node = nodes_of ls in
      let row : List ℕ = children_at ns c in
      let same = agrees ls ok in
      let inside = slice_get_within row g x stood in
      let there : x < length ns = omega (arith, ok.tree.in_tree c g inside, let both : Some (get_or row g 0) ≡ Some x = sym (slice_get-get_or row g 0 inside) ∙ stood in let is : get_or row g 0 ≡ x = cc in is) in
      let made = spliced ns c g (suc g) [] ok.tree at holds (omega arith) (omega arith) (CanJoin-none ns c g (suc g)) in
      let new : List Node = made.0 in
      let moved = parent_went ns new c g x stood made.1 in
      let fits : Agrees (relinked ls c (before row g) (slice_get row (suc g)) (slice_get row (suc g)) (before row g) x None None None) new = went_agrees ls ns new ok.tree same c g x at there made.1.len made.1.content made.1.others moved.1 inside stood made.1.children moved.0 in
      let links : List LinkedNode = relinked ls c b a a b x None None None in
      let linked : Agrees links new = rw (front, back) fits in
      let is : w ≡ is_newline_at ns x = weighed ∙ ap is_newline (linked.content x (omega (arith, there, made.1.len)) ∙ made.1.content x) in
      let here : Agrees (counted_out links c w) new = counted_agrees links c _ new linked in
      let counts : Counts (counted_out links c w) new = subst (λ u. Counts (counted_out links c u) new) (sym is) (counts_went links ns new c g x (omega (arith, at, linked.len, made.1.len)) made.1.content made.1.others (λ d. lines_kept ls c b a a b x None None None d ∙ ok.lines d) stood made.1.children) in (
        subst (λ (l : List Node). Splices ns l c g (suc g) []) (sym (shown_is _ new made.2 here)) made.1,
        stored_by _ new made.2 here counts (omega (arith, ok.few, here.len, made.1.len, length_shown ls)),
      )

  -- by the four steps
  pub comes_by : (l1 l2 l3 l4 : List LinkedNode) (c g x : ℕ) (b a : Option ℕ) (w : Bool) → l1 ≡ ahead_set ls c b (Some x) → l2 ≡ back_set l1 c a (Some x) → l3 ≡ place_set l2 x (Some c) b a → w ≡ is_newline (link_at l3 x).content → l4 ≡ counted_in l3 c w → CanAppend (nodes_of ls) c x → IsGap (nodes_of ls) c g b a → Splices (nodes_of ls) (nodes_of l4) c g g (x ∷ []) × IsStored l4
  comes_by l1 l2 l3 l4 c g x b a w e1 e2 e3 weighed e4 can gap =
      let is = three ls l1 l2 l3 c x b a (Some x) (Some x) (Some c) b a e1 e2 e3 in
      subst (λ (l : List LinkedNode). Splices (nodes_of ls) (nodes_of l) c g g (x ∷ []) × IsStored l) (sym (e4 ∙ ap (λ l. counted_in l c w) is)) (comes c g x b a w can gap (weighed ∙ ap (λ (l : List LinkedNode). is_newline (link_at l x).content) is))

  pub goes_by : (l1 l2 l3 l4 : List LinkedNode) (c x : ℕ) (b a : Option ℕ) (w : Bool) → l1 ≡ ahead_set ls c b a → l2 ≡ back_set l1 c a b → l3 ≡ place_set l2 x None None None → w ≡ is_newline (link_at l3 x).content → l4 ≡ counted_out l3 c w → parent_at (nodes_of ls) x ≡ Some c → b ≡ (link_at ls x).previous → a ≡ (link_at ls x).next → Splices (nodes_of ls) (nodes_of l4) c (place_at (nodes_of ls) x) (suc (place_at (nodes_of ls) x)) [] × IsStored l4
  goes_by l1 l2 l3 l4 c x b a w e1 e2 e3 weighed e4 said front back =
      let r = in_row (nodes_of ls) ok.tree x c said in
      let is = three ls l1 l2 l3 c x b a a b None None None e1 e2 e3 in
      subst (λ (l : List LinkedNode). Splices (nodes_of ls) (nodes_of l) c (place_at (nodes_of ls) x) (suc (place_at (nodes_of ls) x)) [] × IsStored l) (sym (e4 ∙ ap (λ l. counted_out l c w) is)) (goes c (place_at (nodes_of ls) x) x b a w r.0 r.1 r.2 (front ∙ previous_is x c said) (back ∙ next_is x c said) (weighed ∙ ap (λ (l : List LinkedNode). is_newline (link_at l x).content) is))

  -- a container that a node leaves or comes into, as its links say so far
  module _ (c x : ℕ) (b a s t p q r : Option ℕ) (items : List LinkedNode) (steps : items ≡ relinked ls c b a s t x p q r) where
    so_far : (link_at items c).lines ≡ line_ends (nodes_of ls) (children_at (nodes_of ls) c)
    so_far = ap (λ (l : List LinkedNode). (link_at l c).lines) steps ∙ lines_kept ls c b a s t x p q r c ∙ ok.lines c

    -- a child that is the end of a line is counted
    pub counts_one : (w : Bool) → parent_at (nodes_of ls) x ≡ Some c → w ≡ is_newline (link_at items x).content → w ≡ true → 1 ≤ (link_at items c).lines
    counts_one w said weighed h =
        let row : List ℕ = children_at (nodes_of ls) c in
        let k : ℕ = place_at (nodes_of ls) x in
        let inn = ok.tree.within x c said in
        let stood : slice_get row k ≡ Some x = slice_get-get_or row k 0 inn ∙ ap Some (ok.tree.found x c said) in
        let there : x < length ls = omega (arith, at_there (nodes_of ls) ok.tree c k x stood, length_shown ls) in
        let same : is_newline_at (nodes_of ls) x ≡ true = ap is_newline (sym (content_shown ls x there) ∙ sym (content_kept ls c b a s t x p q r x) ∙ ap (λ (l : List LinkedNode). (link_at l x).content) (sym steps)) ∙ sym weighed ∙ h in
        omega (arith, so_far, line_ends-went (nodes_of ls) x row k stood, ap one_if same)

    pub counts_few : (link_at items c).lines + 1 < 2 ^ 32
    counts_few = omega (arith, so_far, line_ends-short (nodes_of ls) (children_at (nodes_of ls) c), row_shorter (nodes_of ls) ok.tree c, length_shown ls, ok.few)

  -- the neighbours are there
  pub previous_there : (x c size : ℕ) (b : Option ℕ) → parent_at (nodes_of ls) x ≡ Some c → b ≡ (link_at ls x).previous → size ≡ length (nodes_of ls) → IfSome b (λ n. n < size)
  previous_there x c size b said e s = rw (e, previous_is x c said) (before_there (nodes_of ls) ok.tree size c (place_at (nodes_of ls) x) s)

  pub next_there : (x c size : ℕ) (b : Option ℕ) → parent_at (nodes_of ls) x ≡ Some c → b ≡ (link_at ls x).next → size ≡ length (nodes_of ls) → IfSome b (λ n. n < size)
  next_there x c size b said e s = rw (e, next_is x c said) (place_there (nodes_of ls) ok.tree size c (suc (place_at (nodes_of ls) x)) s)

  pub gap_front_there : (c g size : ℕ) (b a : Option ℕ) → IsGap (nodes_of ls) c g b a → size ≡ length (nodes_of ls) → IfSome b (λ n. n < size)
  gap_front_there c g size b a gap s = rw gap.front (before_there (nodes_of ls) ok.tree size c g s)

  pub gap_back_there : (c g size : ℕ) (b a : Option ℕ) → IsGap (nodes_of ls) c g b a → size ≡ length (nodes_of ls) → IfSome a (λ n. n < size)
  gap_back_there c g size b a gap s = rw gap.back (place_there (nodes_of ls) ok.tree size c g s)
