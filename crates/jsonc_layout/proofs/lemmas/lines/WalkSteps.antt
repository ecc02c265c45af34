-- A walk below a node that passes over what is too deep, step by step.
use Rattle.std.proofs.Common.{◌≡◌, ◌≢◌, ◌∙◌, refl, sym, ap, arith, ℕ, suc, ◌+◌, ◌-◌, ◌<◌, ◌≤◌, Bool, true, false, cond, inl, inr, List, [], ◌∷◌, ◌++◌, length, get_or, drop, slice_get, Option, Some, None, append_assoc}
use Rattle.std.specs.List.{find, flat_map}
use Rattle.std.specs.Option.{option_or}
use Rattle.std.proofs.lemmas.Bool.{cases_lt, ne_eqb}
use Rattle.std.proofs.lemmas.List.{append-nil}
use Rattle.std.proofs.lemmas.List.Elements.{All-append, All-nil, All-weaker}
use Rattle.std.proofs.lemmas.Option.{get_or_from_slice_get, slice_get_within, slice_get-get_or}
use Rattle.jsonc_tree.specs.Order.{following, in_order, rest_at, with_parent}
use Rattle.jsonc_tree.specs.Siblings.{first, siblings_after}
use Rattle.jsonc_tree.specs.Tree.{Node, children_at, parent_at, place_at, IsTree, above, itself}
use Rattle.jsonc_tree.proofs.Gaps.{at_named, at_there}
use Rattle.jsonc_tree.proofs.LinkedRows.{first_drop}
use Rattle.jsonc_tree.proofs.Order.{following_end, following_is, following_next, following_up, in_order_is, over_step, parent_there, rest_down, rest_over}
use Rattle.jsonc_layout.specs.declared.lines.walk.Reached.{Reached}
use Rattle.jsonc_layout.specs.lines.Breadth.{levels}
use Rattle.jsonc_layout.specs.lines.Walk.{depth_at, HasCome, Passes}
use Rattle.jsonc_layout.proofs.lemmas.lines.Depths.{behind_deep, depth_child, found_at, inner_deep, layers, layers_are, layers_nil, or_some, over_deep, past_deep, without}

no_more : (xs : List ℕ) (k : ℕ) → slice_get xs k ≡ None → length xs ≤ k
no_more xs k e =
    elim (cases_lt k (length xs)) [
      | inl h ↦ (let wrong : None ≡ Some (get_or xs k 0) = sym e ∙ slice_get-get_or xs k 0 h in cc)
      | inr h ↦ h
    ]

module _ (ns : List Node) (tree : IsTree ns) (top : ℕ) where
  behind_in : (n p : ℕ) → parent_at ns n ≡ Some p → first (siblings_after ns n) ≡ slice_get (children_at ns p) (place_at ns n + 1)
  behind_in n p said = ap (λ o. first (drop (place_at ns n + 1) (with_parent o (children_at ns)))) said ∙ first_drop (place_at ns n + 1) (children_at ns p)

  -- where the walk begins
  pub come_top : top < length ns → HasCome ns top (record { node = top; depth = 0 })
  come_top h = record { in_tree = h; over = itself; depth = omega arith }

  -- one level up
  pub not_top : (r : Reached) (p : ℕ) → HasCome ns top r → r.node ≢ top → parent_at ns r.node ≡ Some p → 0 < r.depth
  not_top r p come ne said = omega (arith, come.depth, depth_child ns tree r.node p said, over_deep ns tree top p (over_step ns tree top r.node p come.over ne said))

  pub come_up : (r : Reached) (p : ℕ) → HasCome ns top r → r.node ≢ top → parent_at ns r.node ≡ Some p → HasCome ns top (record { node = p; depth = r.depth - 1 })
  come_up r p come ne said =
      let low : 0 < r.depth = not_top r p come ne said in
      record {
        in_tree = (parent_there ns tree r.node p said).1;
        over = over_step ns tree top r.node p come.over ne said;
        depth = omega (arith, low, come.depth, depth_child ns tree r.node p said);
      }

  pub up : (n p : ℕ) → n ≢ top → parent_at ns n ≡ Some p → None ≡ first (siblings_after ns n) → following ns top n ≡ following ns top p
  up n p ne said e = following_up ns tree top n p ne said (no_more (children_at ns p) (place_at ns n + 1) (sym (e ∙ behind_in n p said)))

  -- the next sibling
  pub come_beside : (r : Reached) (p m : ℕ) → HasCome ns top r → r.node ≢ top → parent_at ns r.node ≡ Some p → Some m ≡ first (siblings_after ns r.node) → HasCome ns top (record { node = m; depth = r.depth })
  come_beside r p m come ne said e =
      let is : slice_get (children_at ns p) (place_at ns r.node + 1) ≡ Some m = sym (e ∙ behind_in r.node p said) in
      let named : parent_at ns m ≡ Some p = at_named ns tree p (place_at ns r.node + 1) m is in
      record {
        in_tree = at_there ns tree p (place_at ns r.node + 1) m is;
        over = above named (over_step ns tree top r.node p come.over ne said);
        depth = omega (arith, come.depth, depth_child ns tree r.node p said, depth_child ns tree m p named);
      }

  pub beside : (r : Reached) (p m : ℕ) → HasCome ns top r → r.node ≢ top → parent_at ns r.node ≡ Some p → Some m ≡ first (siblings_after ns r.node) → following ns top r.node ≡ rest_at ns top (Some m)
  beside r p m come ne said e =
      let kids : List ℕ = children_at ns p in
      let is : slice_get kids (place_at ns r.node + 1) ≡ Some m = sym (e ∙ behind_in r.node p said) in
      following_next ns tree top r.node p ne come.over said (slice_get_within kids (place_at ns r.node + 1) m is)
      ∙ ap (λ k. rest_at ns top (Some k)) (get_or_from_slice_get kids (place_at ns r.node + 1) m 0 is)

  -- the first child
  pub come_down : (r : Reached) (m : ℕ) → HasCome ns top r → Some m ≡ first (children_at ns r.node) → HasCome ns top (record { node = m; depth = r.depth + 1 })
  come_down r m come e =
      let named : parent_at ns m ≡ Some r.node = at_named ns tree r.node 0 m (sym e) in
      record {
        in_tree = at_there ns tree r.node 0 m (sym e);
        over = above named come.over;
        depth = omega (arith, come.depth, depth_child ns tree m r.node named);
      }

  pub passes_down : (b : ℕ) (r : Reached) (m : ℕ) → HasCome ns top r → Some m ≡ first (children_at ns r.node) → Passes ns top b r.node (Some m)
  passes_down b r m come e = record {
    passed = [];
    rest = rest_down ns tree top r.node come.in_tree come.over (slice_get_within (children_at ns r.node) 0 m (sym e)) ∙ ap (λ k. r.node ∷ rest_at ns top (Some k)) (get_or_from_slice_get (children_at ns r.node) 0 m 0 (sym e));
    deep = All-nil (λ k. b ≤ depth_at ns k);
  }

  pub passes_leaf : (b n : ℕ) (o : Option ℕ) → n < length ns → None ≡ first (children_at ns n) → following ns top n ≡ rest_at ns top o → Passes ns top b n o
  passes_leaf b n o h e past = record {
    passed = [];
    rest = (let none : length (children_at ns n) ≡ 0 = omega (arith, no_more (children_at ns n) 0 (sym e)) in rest_over ns tree top n o h none past);
    deep = All-nil (λ k. b ≤ depth_at ns k);
  }

  -- over all below a node
  pub passes_inner : (b n : ℕ) (o : Option ℕ) → n < length ns → b ≤ suc (depth_at ns n) → following ns top n ≡ rest_at ns top o → Passes ns top b n o
  passes_inner b n o h less past =
      let inner : List ℕ = flat_map (in_order ns) (children_at ns n) in
      record {
        passed = inner;
        rest = ap (λ l. l ++ following ns top n) (in_order_is ns tree n h) ∙ ap (λ l. n ∷ (inner ++ l)) past;
        deep = All-weaker (λ k. suc (depth_at ns n) ≤ depth_at ns k) (λ k. b ≤ depth_at ns k) (λ k l. omega (arith, l, less)) inner (inner_deep ns tree n);
      }

  pub passes_top : (n : ℕ) → n < length ns → n ≡ top → Passes ns top (depth_at ns n) n None
  passes_top n h e = passes_inner (depth_at ns n) n None h (omega arith) (ap (λ k. following ns k n) (sym e) ∙ following_end ns tree n h)

  -- and over the rest of its row
  pub passes_up : (n p : ℕ) (o : Option ℕ) → n < length ns → n ≢ top → parent_at ns n ≡ Some p → following ns top p ≡ rest_at ns top o → Passes ns top (depth_at ns n) n o
  passes_up n p o h ne said past =
      let inner : List ℕ = flat_map (in_order ns) (children_at ns n) in
      let behind : List ℕ = flat_map (in_order ns) (drop (place_at ns n + 1) (children_at ns p)) in
      let ahead : following ns top n ≡ behind ++ following ns top p =
      following_is ns tree top n h
      ∙ ap (λ b. cond b [] (with_parent (parent_at ns n) (λ q. flat_map (in_order ns) (drop (place_at ns n + 1) (children_at ns q)) ++ following ns top q))) (ne_eqb n top ne)
      ∙ ap (λ q. with_parent q (λ k. flat_map (in_order ns) (drop (place_at ns n + 1) (children_at ns k)) ++ following ns top k)) said in
      record {
        passed = inner ++ behind;
        rest = ap (λ l. l ++ following ns top n) (in_order_is ns tree n h)
            ∙ ap (λ l. n ∷ (inner ++ l)) (ahead ∙ ap (λ l. behind ++ l) past)
            ∙ ap (λ l. n ∷ l) (sym (append_assoc inner behind (rest_at ns top o)));
        deep = All-append (λ k. depth_at ns n ≤ depth_at ns k) inner behind
            (All-weaker (λ k. suc (depth_at ns n) ≤ depth_at ns k) (λ k. depth_at ns n ≤ depth_at ns k) (λ k l. omega (arith, l)) inner (inner_deep ns tree n)) (behind_deep ns tree n p said);
      }

or_none : (o : Option ℕ) → o ≡ option_or o None
or_none None = refl
or_none (Some x) = refl

-- what such a walk finds
module _ (ns : List Node) (top : ℕ) where
  module _ (p : ℕ → Bool) where
    abbrev pub found_from : ℕ → Option ℕ → Option ℕ
    found_from b o = find p (layers (depth_at ns) b (rest_at ns top o))

    pub goes_on : (b n : ℕ) (o : Option ℕ) → Passes ns top b n o → p n ≡ false → found_from b (Some n) ≡ found_from b o
    goes_on b n o s e =
        ap (λ l. find p (layers (depth_at ns) b l)) s.rest ∙ without (depth_at ns) p b n (s.passed ++ rest_at ns top o) e
        ∙ ap (find p) (past_deep (depth_at ns) b s.passed (rest_at ns top o) s.deep)

    pub stops_at : (b n : ℕ) (o : Option ℕ) → Passes ns top (depth_at ns n) n o → depth_at ns n < b → p n ≡ true → found_from b (Some n) ≡ option_or (found_from (depth_at ns n) o) (Some n)
    stops_at b n o s less e =
        ap (λ l. find p (layers (depth_at ns) b l)) s.rest ∙ found_at (depth_at ns) p b n (s.passed ++ rest_at ns top o) less e
        ∙ ap (λ l. option_or (find p l) (Some n)) (past_deep (depth_at ns) (depth_at ns n) s.passed (rest_at ns top o) s.deep)

    -- the walk begins with all that is below the node
    pub found_all : IsTree ns → top < length ns → (b : ℕ) → find p (levels b ns (top ∷ [])) ≡ option_or (found_from (depth_at ns top + b) (Some top)) None
    found_all tree h b =
        let whole : rest_at ns top (Some top) ≡ in_order ns top = ap (λ l. in_order ns top ++ l) (following_end ns tree top h) ∙ append-nil (in_order ns top) in
        sym (ap (find p) (ap (layers (depth_at ns) (depth_at ns top + b)) whole ∙ layers_are ns tree b top h)) ∙ or_none (found_from (depth_at ns top + b) (Some top))

    -- it goes on behind a node that is not looked for
    pub searched_on : (b n : ℕ) (o found : Option ℕ) (all : Option ℕ) → Passes ns top (depth_at ns top + b) n o → p n ≡ false
        → all ≡ option_or (found_from (depth_at ns top + b) (Some n)) found → all ≡ option_or (found_from (depth_at ns top + b) o) found
    searched_on b n o found all s e so_far = so_far ∙ ap (λ x. option_or x found) (goes_on (depth_at ns top + b) n o s e)

    -- and behind one that is, with a smaller depth
    pub searched_up : (b : ℕ) (r : Reached) (o found : Option ℕ) (all : Option ℕ) → HasCome ns top r → r.depth < b → Passes ns top (depth_at ns r.node) r.node o → p r.node ≡ true
        → all ≡ option_or (found_from (depth_at ns top + b) (Some r.node)) found → all ≡ option_or (found_from (depth_at ns top + r.depth) o) (Some r.node)
    searched_up b r o found all come less s e so_far =
        so_far ∙ ap (λ x. option_or x found) (stops_at (depth_at ns top + b) r.node o s (omega (arith, less, come.depth)) e)
        ∙ or_some (depth_at ns) p (found_from (depth_at ns r.node) o) found r.node
        ∙ ap (λ d. option_or (found_from d o) (Some r.node)) come.depth

    -- nothing is left
    pub searched_all : (b : ℕ) (found : Option ℕ) (all : Option ℕ) → all ≡ option_or (found_from b None) found → found ≡ all
    searched_all b found all so_far = sym (so_far ∙ ap (λ l. option_or (find p l) found) (layers_nil (depth_at ns) b))
