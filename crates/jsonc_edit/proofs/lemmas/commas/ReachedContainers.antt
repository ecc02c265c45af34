-- A walk through what is reached, step by step.
use Rattle.std.proofs.Common.{◌≡◌, ◌≢◌, ◌∙◌, sym, ap, subst, refl, ℕ, zero, suc, ◌+◌, ◌<◌, ◌≤◌, Bool, true, false, ◌&&◌, cond, inl, inr, List, [], ◌∷◌, ◌++◌, length, get_or, drop, filter, slice_get, Option, Some, None, IsTrue, arith, length-append}
use Rattle.std.specs.List.{flat_map, All}
use Rattle.std.proofs.lemmas.Bool.{cases_lt}
use Rattle.std.proofs.lemmas.List.Elements.{filter-append, All-head, All-tail}
use Rattle.std.proofs.lemmas.Option.{get_or_from_slice_get, slice_get_within, slice_get-get_or}
use Rattle.jsonc_tree.specs.Order.{below, following, in_order, rest_at, with_parent}
use Rattle.jsonc_tree.specs.Siblings.{first, siblings_after}
use Rattle.jsonc_tree.specs.Tree.{Node, children_at, parent_at, place_at, IsTree, IsOver}
use Rattle.jsonc_tree.proofs.Gaps.{at_named, at_there}
use Rattle.jsonc_tree.proofs.Order.{following_next, following_up, in_order_is, not_over_parent, over_step, parent_there, rest_down, rest_over}
use Rattle.jsonc_tree.proofs.LinkedRows.{first_drop}
use Rattle.jsonc_sound.proofs.Commas.{and_false}
use Rattle.jsonc_edit.specs.commas.InTurn.{holds_at, is_entered, is_met, is_reached, to_come, IsOpen}
use Rattle.jsonc_edit.proofs.lemmas.commas.Children.{children_are, IsChild}
use Rattle.jsonc_edit.proofs.lemmas.commas.InOrder.{filter-flat_map}
use Rattle.jsonc_edit.proofs.lemmas.commas.Reach.{not_reached, reached_top, reached_up}

pub second : (a b : Bool) → a && b ≡ true → b ≡ true
second true b e = e
second false b e = cc

one_parent : (ns : List Node) (n p q : ℕ) → parent_at ns n ≡ Some p → parent_at ns n ≡ Some q → p ≡ q
one_parent ns n p q e f = let same : Some p ≡ Some q = sym e ∙ f in cc

module _ (ns : List Node) (tree : IsTree ns) (end : ℕ) where
  pub open_end : IsOpen ns end end
  open_end p ne said = absurd (ne refl)

  -- in what is reached
  pub open_child : (n m : ℕ) → is_reached ns end n ≡ true → parent_at ns m ≡ Some n → IsOpen ns end m
  open_child n m h said p ne told = subst (λ q. is_reached ns end q ≡ true) (one_parent ns m n p said told) h

  reach_step : (n p : ℕ) → n ≢ end → parent_at ns n ≡ Some p → is_reached ns end n ≡ is_entered ns n && is_reached ns end p
  reach_step n p ne said = by (is_entered ns n) refl
    where
      by : (b : Bool) → is_entered ns n ≡ b → is_reached ns end n ≡ is_entered ns n && is_reached ns end p
      by true e = reached_up ns tree end n (parent_there ns tree n p said).0 ne p e said ∙ sym (ap (λ b. b && is_reached ns end p) e)
      by false e = not_reached ns tree end n (parent_there ns tree n p said).0 ne e ∙ sym (ap (λ b. b && is_reached ns end p) e)

  -- what is reached stands in what is
  pub open_reached : (n : ℕ) → is_reached ns end n ≡ true → IsOpen ns end n
  open_reached n h p ne said = second (is_entered ns n) (is_reached ns end p) (sym (reach_step n p ne said) ∙ h)

  -- where what a node stands in is reached, it is if it is entered
  pub reached_by : (n : ℕ) → n < length ns → IsOpen ns end n → n ≢ end → is_entered ns n ≡ is_reached ns end n
  reached_by n there inn ne = by (parent_at ns n) refl (is_entered ns n) refl
    where
      by : (o : Option ℕ) → parent_at ns n ≡ o → (b : Bool) → is_entered ns n ≡ b → is_entered ns n ≡ is_reached ns end n
      by None said true e = e ∙ sym (reached_top ns tree end n there ne e said)
      by (Some p) said true e = e ∙ sym (reached_up ns tree end n there ne p e said ∙ inn p ne said)
      by o said false e = e ∙ sym (not_reached ns tree end n there ne e)

  -- the next sibling
  pub record Stands (from : List ℕ) (m : ℕ) : Type 0 where
    pub rest : from ≡ rest_at ns end (Some m)
    pub in_tree : m < length ns
    pub over : IsOver ns end m
    pub inside : IsOpen ns end m

  behind_in : (at p : ℕ) → parent_at ns at ≡ Some p → first (siblings_after ns at) ≡ slice_get (children_at ns p) (place_at ns at + 1)
  behind_in at p said = ap (λ o. first (drop (place_at ns at + 1) (with_parent o (children_at ns)))) said ∙ first_drop (place_at ns at + 1) (children_at ns p)

  pub to_sibling : (at p next : ℕ) → IsOver ns end at → IsOpen ns end at → at ≢ end → parent_at ns at ≡ Some p → Some next ≡ first (siblings_after ns at) → Stands (following ns end at) next
  to_sibling at p next over inn ne said e =
      let kids : List ℕ = children_at ns p in
      let is : slice_get kids (place_at ns at + 1) ≡ Some next = sym (e ∙ behind_in at p said) in
      let named : parent_at ns next ≡ Some p = at_named ns tree p (place_at ns at + 1) next is in
      record {
        rest = following_next ns tree end at p ne over said (slice_get_within kids (place_at ns at + 1) next is) ∙ ap (λ m. rest_at ns end (Some m)) (get_or_from_slice_get kids (place_at ns at + 1) next 0 is);
        in_tree = at_there ns tree p (place_at ns at + 1) next is;
        over = IsOver.above named (over_step ns tree end at p over ne said);
        inside = open_child p next (inn p ne said) named;
      }

  no_more : (xs : List ℕ) (k : ℕ) → slice_get xs k ≡ None → length xs ≤ k
  no_more xs k e =
      elim (cases_lt k (length xs)) [
        | inl h ↦ (let wrong : None ≡ Some (get_or xs k 0) = sym e ∙ slice_get-get_or xs k 0 h in cc)
        | inr h ↦ h
      ]

  -- or up
  pub to_parent : (at p : ℕ) → at ≢ end → parent_at ns at ≡ Some p → None ≡ first (siblings_after ns at) → following ns end at ≡ following ns end p
  to_parent at p ne said e = following_up ns tree end at p ne said (no_more (children_at ns p) (place_at ns at + 1) (sym (e ∙ behind_in at p said)))

  -- the first child
  pub to_child : (n m : ℕ) → n < length ns → IsOver ns end n → is_reached ns end n ≡ true → Some m ≡ first (children_at ns n)
      → (rest_at ns end (Some n) ≡ n ∷ rest_at ns end (Some m)) × (m < length ns) × IsOver ns end m × IsOpen ns end m
  to_child n m there over reached e =
      let named : parent_at ns m ≡ Some n = at_named ns tree n 0 m (sym e) in (
        rest_down ns tree end n there over (slice_get_within (children_at ns n) 0 m (sym e)) ∙ ap (λ k. n ∷ rest_at ns end (Some k)) (get_or_from_slice_get (children_at ns n) 0 m 0 (sym e)),
        at_there ns tree n 0 m (sym e),
        IsOver.above named over,
        open_child n m reached named,
      )

  pub no_child : (n : ℕ) (o : Option ℕ) → n < length ns → None ≡ first (children_at ns n) → following ns end n ≡ rest_at ns end o → rest_at ns end (Some n) ≡ n ∷ rest_at ns end o
  no_child n o there e f = let none : length (children_at ns n) ≡ 0 = omega (arith, no_more (children_at ns n) 0 (sym e)) in rest_over ns tree end n o there none f

  -- nothing below what is not reached is met
  none_each : (f : ℕ → List ℕ) (P : ℕ → Type 0) → ((x : ℕ) → P x → f x ≡ []) → (xs : List ℕ) → All P xs → flat_map f xs ≡ []
  none_each f P h [] all = refl
  none_each f P h (x ∷ xs) all = ap (λ l. l ++ flat_map f xs) (h x (All-head P x xs all)) ∙ none_each f P h xs (All-tail P x xs all)

  unmet : (n : ℕ) → is_reached ns end n ≡ false → is_met ns end n ≡ false
  unmet n e = and_false (holds_at ns n) (is_reached ns end n) e

  none_below : (k n : ℕ) → IsOver ns end n → is_reached ns end n ≡ false → filter (is_met ns end) (below k ns n) ≡ []
  none_below zero n over e = refl
  none_below (suc k) n over e =
      let f : ℕ → List ℕ = λ x. filter (is_met ns end) (below k ns x) in
      let rows : filter (is_met ns end) (flat_map (below k ns) (children_at ns n)) ≡ [] =
      filter-flat_map (is_met ns end) (below k ns) (children_at ns n)
      ∙ none_each f (IsChild ns n) (λ x said.
      let apart : x ≢ end = λ same. not_over_parent ns tree end n (ap (parent_at ns) (sym same) ∙ said) over in
      none_below k x (IsOver.above said over) (reach_step x n apart said ∙ and_false (is_entered ns x) (is_reached ns end n) e)) (children_at ns n) (children_are ns tree n) in
      ap (λ b. cond b (n ∷ filter (is_met ns end) (flat_map (below k ns) (children_at ns n))) (filter (is_met ns end) (flat_map (below k ns) (children_at ns n)))) (unmet n e) ∙ rows

  none_in : (n : ℕ) → IsOver ns end n → is_reached ns end n ≡ false → filter (is_met ns end) (in_order ns n) ≡ []
  unfolding in_order
  none_in n over e = none_below (length ns) n over e

  pub passed_by : (n : ℕ) (o : Option ℕ) → IsOver ns end n → is_reached ns end n ≡ false → following ns end n ≡ rest_at ns end o → to_come ns end (Some n) ≡ to_come ns end o
  passed_by n o over e f =
      filter-append (is_met ns end) (in_order ns n) (following ns end n) ∙ ap (λ l. l ++ filter (is_met ns end) (following ns end n)) (none_in n over e) ∙ ap (filter (is_met ns end)) f

  pub gone_by : (n : ℕ) (o : Option ℕ) → is_met ns end n ≡ false → rest_at ns end (Some n) ≡ n ∷ rest_at ns end o → to_come ns end (Some n) ≡ to_come ns end o
  gone_by n o e f = ap (filter (is_met ns end)) f ∙ ap (λ b. cond b (n ∷ filter (is_met ns end) (rest_at ns end o)) (filter (is_met ns end) (rest_at ns end o))) e

  pub met_first : (n : ℕ) (o : Option ℕ) → is_met ns end n ≡ true → rest_at ns end (Some n) ≡ n ∷ rest_at ns end o → to_come ns end (Some n) ≡ n ∷ to_come ns end o
  met_first n o e f = ap (filter (is_met ns end)) f ∙ ap (λ b. cond b (n ∷ filter (is_met ns end) (rest_at ns end o)) (filter (is_met ns end) (rest_at ns end o))) e

pub met_reached : (ns : List Node) (c n : ℕ) → IsTrue (is_met ns c n) → is_reached ns c n ≡ true
met_reached ns c n h = second (holds_at ns n) (is_reached ns c n) h

module _ (ns : List Node) (tree : IsTree ns) (end : ℕ) where
  pub less_inside : (n : ℕ) (o : Option ℕ) → rest_at ns end (Some n) ≡ n ∷ rest_at ns end o → length (rest_at ns end o) < length (rest_at ns end (Some n))
  less_inside n o e = omega (arith, ap length e)

  pub less_past : (n : ℕ) (o : Option ℕ) → n < length ns → following ns end n ≡ rest_at ns end o → length (rest_at ns end o) < length (rest_at ns end (Some n))
  less_past n o there e =
      omega (arith, ap length (in_order_is ns tree n there), length-append (in_order ns n) (following ns end n), ap length e)
