-- Each array or object of a sound document below a node is among those that a walk below it comes to.
use Rattle.std.proofs.Common.{◌≡◌, ◌∙◌, ap, subst, refl, ℕ, ◌<◌, Bool, true, false, not, ◌&&◌, ◌||◌, cond, eq-eqb, inl, inr, List, length, ◌∷◌, ◌++◌, All, filter, Some, IsTrue}
use Rattle.std.specs.List.{flat_map}
use Rattle.std.proofs.lemmas.Bool.{cases_eq}
use Rattle.std.proofs.lemmas.List.Concat.{flat_map-append}
use Rattle.std.proofs.lemmas.List.Elements.{All-head, All-tail, filter-append}
use Rattle.jsonc_text.specs.Options.{Options}
use Rattle.jsonc_tree.specs.Order.{in_order}
use Rattle.jsonc_tree.specs.OrderedTree.{ordered_tree}
use Rattle.jsonc_tree.specs.Tree.{Node, content_at, children_at, parent_at, place_at, IsTree, IsOver}
use Rattle.jsonc_tree.proofs.Order.{in_order_is, parent_there}
use Rattle.jsonc_layout.specs.nodes.Kinds.{is_property}
use Rattle.jsonc_layout.specs.nodes.Properties.{value_at}
use Rattle.jsonc_sound.specs.SoundTrees.{SoundTree}
use Rattle.jsonc_edit.specs.Paths.{in_array, in_object, itself, step, IsAt, IsElementOf, IsHeldBy, LeadsTo}
use Rattle.jsonc_edit.proofs.ChangesUpward.{over_through}
use Rattle.jsonc_edit.proofs.FittingNodes.{over_there}
use Rattle.jsonc_edit.proofs.Uniqueness.{element_parent, element_there}
use Rattle.jsonc_edit.specs.commas.InTurn.{holders, holds_at, is_entered, is_entered_under, is_it, is_met, is_reached}
use Rattle.jsonc_edit.proofs.lemmas.commas.Holders.{child_split, holder_path}
use Rattle.jsonc_edit.proofs.lemmas.commas.Reach.{reached_end, reached_top, reached_up}
use Rattle.jsonc_edit.proofs.Lists.{all_front, all_rest}

-- what a path leads to is reached
module _ (ns : List Node) (tree : IsTree ns) (end : ℕ) where
  entered_reached : (n p : ℕ) → n < length ns → is_entered ns n ≡ true → parent_at ns n ≡ Some p → is_reached ns end p ≡ true → is_reached ns end n ≡ true
  entered_reached n p there entered said h =
      elim (cases_eq n end) [
        | inl e ↦ subst (λ m. is_reached ns m n ≡ true) e (reached_end ns tree n there)
        | inr ne ↦ reached_up ns tree end n there ne p entered said ∙ h
      ]

  element_reached : (p i n : ℕ) → IsElementOf ns p i n → is_property (content_at ns p) ≡ false → is_reached ns end p ≡ true → is_reached ns end n ≡ true
  element_reached p i n element plain h =
      let said : parent_at ns n ≡ Some p = element_parent ns tree p i n element in
      entered_reached n p (element_there ns tree p i n element) (ap (is_entered_under ns n) said ∙ ap (λ b. not b || is_it (value_at ns p) n) plain) said h

  held_reached : (r n : ℕ) → IsHeldBy ns r n → is_reached ns end r ≡ true → is_reached ns end n ≡ true
  held_reached r n held h =
      let said : parent_at ns n ≡ Some r = element_parent ns tree r 1 n held.1 in
      entered_reached n r (element_there ns tree r 1 n held.1)
      (ap (is_entered_under ns n) said ∙ ap (λ w. not (is_property w) || is_it (value_at ns r) n) held.0 ∙ ap (λ o. is_it o n) held.2 ∙ eq-eqb n n refl) said h

  root_reached : is_reached ns end 0 ≡ true
  root_reached =
      elim (cases_eq 0 end) [
        | inl e ↦ subst (λ m. is_reached ns m 0 ≡ true) e (reached_end ns tree 0 tree.first)
        | inr ne ↦ reached_top ns tree end 0 tree.first ne (ap (is_entered_under ns 0) tree.root_alone) tree.root_alone
      ]

  leads_reached : (n v : ℕ) (path : List ℕ) → is_reached ns end v ≡ true → LeadsTo ns n v path → is_reached ns end n ≡ true
  leads_reached n _ _ h itself = h
  leads_reached n v _ h (step {i = i} {q = q} {path = path} (in_array is element) rest) =
      leads_reached n q path (element_reached v i q element (ap is_property is) h) rest
  leads_reached n v _ h (step {i = i} {q = q} {path = path} (in_object {r = r} is element held) rest) =
      leads_reached n q path (held_reached r q held (element_reached v i r element (ap is_property is) h)) rest

  at_reached : (path : List ℕ) (n : ℕ) → IsAt ns path n → is_reached ns end n ≡ true
  at_reached path n (v, element, leads) = leads_reached n v path (element_reached 0 0 v element (ap is_property tree.root_first) root_reached) leads

-- what is so of all that pass in order is so of those below a node
module _ (ns : List Node) (tree : IsTree ns) (end : ℕ) (P : ℕ → Type 0) (q : ℕ → Bool) where
  behind_head : (n : ℕ) (rest : List ℕ) → All P (filter q (n ∷ rest)) → All P (filter q rest)
  behind_head n rest h = by (q n) h
    where
      by : (b : Bool) → All P (cond b (n ∷ filter q rest) (filter q rest)) → All P (filter q rest)
      by true k = All-tail P n (filter q rest) k
      by false k = k

  in_part : (front : List ℕ) (n : ℕ) (back : List ℕ) → All P (filter q (flat_map (in_order ns) (front ++ n ∷ back))) → All P (filter q (in_order ns n))
  in_part front n back h =
      let f : List ℕ = flat_map (in_order ns) front in
      let g : List ℕ = flat_map (in_order ns) back in
      let parts : filter q (flat_map (in_order ns) (front ++ n ∷ back)) ≡ filter q f ++ (filter q (in_order ns n) ++ filter q g) =
      ap (filter q) (flat_map-append (in_order ns) front (n ∷ back)) ∙ filter-append q f (in_order ns n ++ g) ∙ ap (λ l. filter q f ++ l) (filter-append q (in_order ns n) g) in
      all_front P (filter q (in_order ns n)) (filter q g) (all_rest P (filter q f) (filter q (in_order ns n) ++ filter q g) (subst (All P) parts h))

  those_below : (n : ℕ) → IsOver ns end n → All P (filter q (in_order ns end)) → All P (filter q (in_order ns n))
  those_below _ IsOver.itself h = h
  those_below n (IsOver.above {c = c} said rest) h =
      let split = child_split (children_at ns c) (place_at ns n) n (tree.within n c said) (tree.found n c said) in
      let kids : All P (filter q (flat_map (in_order ns) (children_at ns c))) =
      behind_head c (flat_map (in_order ns) (children_at ns c)) (subst (λ l. All P (filter q l)) (in_order_is ns tree c (parent_there ns tree n c said).1) (those_below c rest h)) in
      in_part split.0 n split.1 (subst (λ l. All P (filter q (flat_map (in_order ns) l))) split.2 kids)

  that_below : (n : ℕ) → n < length ns → IsOver ns end n → q n ≡ true → All P (filter q (in_order ns end)) → P n
  that_below n there over passes h =
      let rest : List ℕ = flat_map (in_order ns) (children_at ns n) in
      All-head P n (filter q rest) (subst (All P) (ap (filter q) (in_order_is ns tree n there) ∙ ap (λ b. cond b (n ∷ filter q rest) (filter q rest)) passes) (those_below n over h))

-- so of each array or object below a node of a sound document
pub each_holder : (o : Options) (ns : List Node) → IsTree ns → SoundTree o (ordered_tree ns 0) → (c : ℕ) → IsOver ns 0 c → (P : ℕ → Type 0) → All P (holders ns c) → (n : ℕ) → IsOver ns c n → IsTrue (holds_at ns n) → P n
each_holder o ns tree sound c it P all n over holds =
    let whole : IsOver ns 0 n = over_through ns 0 c n it over in
    let place = holder_path o ns tree sound n whole holds in
    let met : is_met ns c n ≡ true = ap (λ b. b && is_reached ns c n) holds ∙ at_reached ns tree c place.0 n place.1 in
    that_below ns tree c P (is_met ns c) n (over_there ns tree n whole) over met all
