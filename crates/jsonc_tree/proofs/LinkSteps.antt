-- Steps along the links of a row, and the steps of a splice.
use Rattle.std.proofs.Common.{◌≡◌, ℕ, true, zero, suc, ◌+◌, ◌-◌, ◌<◌, ◌≤◌, List, [], ◌∷◌, ◌++◌, length, get_or, take, Option, None, Some, inl, inr, slice_get, slice_index, refl, sym, ap, subst, ◌∙◌, arith, length-take}
use Rattle.std.proofs.lemmas.Bool.{cases_lt}
use Rattle.std.proofs.lemmas.Option.{slice_get-get_or, slice_get_within, slice_get_past, get_or_from_slice_get}
use Rattle.std.proofs.Common.{drop}
use Rattle.std.proofs.lemmas.List.{drop_more}
use Rattle.jsonc_tree.specs.Tree as tree
use Rattle.jsonc_tree.specs.Tree.{children_at, parent_at, place_at, place_under, IsTree, is_container_at}
use Rattle.jsonc_tree.specs.Changes.{Splices, CanJoin, CanAppend}
use Rattle.jsonc_tree.specs.Stored.{link_at, nodes_of, chain, Stands, ahead_at, back_at, IsStored, LinkedNode}
use Rattle.jsonc_tree.specs.Siblings.{before, IsGap}
use Rattle.jsonc_tree.proofs.Moves.{next_is}
use Rattle.jsonc_tree.proofs.Gaps.{came_here, came_high, length_came, went_high, at_named, at_placed, at_there}
use Rattle.jsonc_tree.proofs.AgreeingLinks.{row_short, agrees, chain_from, row_is}
use Rattle.jsonc_tree.proofs.Stretches.{Splices-gone, Splices-more, take_next, take_in, next_out, CanAppend-next}

-- what stands at a place of a row is something
pub some_at : (xs : List ℕ) (k : ℕ) → k < length xs → slice_get xs k ≡ None → ⊥
some_at xs k h e = let wrong : None ≡ Some (get_or xs k 0) = sym e ∙ slice_get-get_or xs k 0 h in cc

pub none_at : (xs : List ℕ) (k : ℕ) → slice_get xs k ≡ None → length xs ≤ k
none_at xs k e = elim (cases_lt k (length xs)) [
  | inl h ↦ absurd (some_at xs k h e)
  | inr h ↦ h
]

-- the row of a node's container, or none
abbrev pub row_under : List tree.Node → Option ℕ → List ℕ
row_under ns None = []
row_under ns (Some p) = children_at ns p

module _ (ls : List LinkedNode) (ok : IsStored ls) where
  pub first_step : (c : ℕ) → (link_at ls c).first ≡ slice_get (children_at (nodes_of ls) c) 0
  first_step c = ok.linked.ahead c 0 (omega arith)

  pub next_step : (c k n : ℕ) → slice_get (children_at (nodes_of ls) c) k ≡ Some n → (link_at ls n).next ≡ slice_get (children_at (nodes_of ls) c) (suc k)
  next_step c k n e = ap (ahead_at ls c) (sym e) ∙ ok.linked.ahead c (suc k) (omega (arith, slice_get_within (children_at (nodes_of ls) c) k n e))

  pub chain_none : (steps : ℕ) → chain steps ls None ≡ []
  chain_none zero = refl
  chain_none (suc steps) = refl

  pub chain_step : (n : ℕ) → Stands ls (Some n) → (chain (length ls) ls (Some n) ≡ n ∷ chain (length ls) ls (link_at ls n).next) × Stands ls (link_at ls n).next × (n < length (nodes_of ls))
  chain_step n (c, k, h, e) =
      let row : List ℕ = children_at (nodes_of ls) c in
      let same = agrees ls ok in
      let inn = slice_get_within row k n (sym e) in
      let goes_on = next_step c k n (sym e) in
      let short = row_short (nodes_of ls) ok.tree c in
      let first : get_or row k 0 ≡ n = get_or_from_slice_get row k n 0 (sym e) in
      let one : k + 1 ≡ suc k = omega arith in
      let here : chain (length ls) ls (Some n) ≡ drop k row = ap (chain (length ls) ls) e ∙ chain_from ls (nodes_of ls) ok.tree same (length ls) c k h (omega (arith, same.len)) in
      let there : chain (length ls) ls (link_at ls n).next ≡ drop (suc k) row = ap (chain (length ls) ls) goes_on ∙ chain_from ls (nodes_of ls) ok.tree same (length ls) c (suc k) (omega arith) (omega (arith, same.len)) in
      (here ∙ drop_more row k 0 inn ∙ ap (λ m. m ∷ drop (k + 1) row) first ∙ ap (λ m. n ∷ drop m row) one ∙ ap (λ l. n ∷ l) (sym there), (c, suc k, omega (arith, inn), goes_on), at_there (nodes_of ls) ok.tree c k n (sym e))

  pub chain_first : (c : ℕ) (o : Option ℕ) → o ≡ (link_at ls c).first → (chain (length ls) ls o ≡ children_at (nodes_of ls) c) × Stands ls o
  chain_first c o e = (ap (chain (length ls) ls) e ∙ row_is ls (nodes_of ls) ok.tree (agrees ls ok) c, (c, 0, omega arith, e ∙ first_step c))

  pub previous_step : (c k n : ℕ) → slice_get (children_at (nodes_of ls) c) k ≡ Some n → (link_at ls n).previous ≡ before (children_at (nodes_of ls) c) k
  previous_step c k n e = ap (back_at ls c) (sym e) ∙ ok.linked.back c k (omega (arith, slice_get_within (children_at (nodes_of ls) c) k n e))

  pub step_there : (c k n size : ℕ) → slice_get (children_at (nodes_of ls) c) k ≡ Some n → size ≡ length (nodes_of ls) → n < size
  step_there c k n size e s = omega (arith, at_there (nodes_of ls) ok.tree c k n e)

  -- where the walk back from a node begins
  start_by : (n : ℕ) (o : Option ℕ) → parent_at (nodes_of ls) n ≡ o → (link_at ls n).previous ≡ before (row_under (nodes_of ls) o) (place_under (nodes_of ls) n o)
  start_by n None said = (ok.linked.alone n said).1
  start_by n (Some p) said =
      let k : ℕ = place_at (nodes_of ls) n in
      let inn = ok.tree.within n p said in
      let is : slice_get (children_at (nodes_of ls) p) k ≡ Some n = slice_get-get_or (children_at (nodes_of ls) p) k 0 inn ∙ ap Some (ok.tree.found n p said) in
      previous_step p k n is ∙ ap (λ o. before (children_at (nodes_of ls) p) (place_under (nodes_of ls) n o)) said

  pub last_step : (c : ℕ) → (link_at ls c).last ≡ before (children_at (nodes_of ls) c) (length (children_at (nodes_of ls) c))
  last_step c =
      let row : List ℕ = children_at (nodes_of ls) c in
      ap (back_at ls c) (sym (slice_get_past row (length row) (omega arith))) ∙ ok.linked.back c (length row) (omega arith)

  -- the sibling behind a child stands at the next place
  pub next_place : (n p m : ℕ) → parent_at (nodes_of ls) n ≡ Some p → (link_at ls n).next ≡ Some m → (place_at (nodes_of ls) n + 1 < length (children_at (nodes_of ls) p)) × (slice_index (children_at (nodes_of ls) p) (place_at (nodes_of ls) n + 1) ≡ m) × (m < length (nodes_of ls)) × (parent_at (nodes_of ls) m ≡ Some p)
  next_place n p m said e =
      let one : suc (place_at (nodes_of ls) n) ≡ place_at (nodes_of ls) n + 1 = omega arith in
      let row : List ℕ = children_at (nodes_of ls) p in
      let stands : slice_get row (place_at (nodes_of ls) n + 1) ≡ Some m = ap (slice_get row) (sym one) ∙ sym (next_is ls ok n p said) ∙ e in
      (slice_get_within row (place_at (nodes_of ls) n + 1) m stands, get_or_from_slice_get row (place_at (nodes_of ls) n + 1) m 0 stands, at_there (nodes_of ls) ok.tree p (place_at (nodes_of ls) n + 1) m stands, at_named (nodes_of ls) ok.tree p (place_at (nodes_of ls) n + 1) m stands)

  pub next_none : (n p : ℕ) → parent_at (nodes_of ls) n ≡ Some p → (link_at ls n).next ≡ None → length (children_at (nodes_of ls) p) ≤ place_at (nodes_of ls) n + 1
  next_none n p said e =
      omega (arith, none_at (children_at (nodes_of ls) p) (suc (place_at (nodes_of ls) n)) (sym (next_is ls ok n p said) ∙ e))

  pub start_back : (n : ℕ) → (link_at ls n).previous ≡ before (row_under (nodes_of ls) (parent_at (nodes_of ls) n)) (place_at (nodes_of ls) n)
  start_back n = start_by n (parent_at (nodes_of ls) n) refl

  -- and how it goes on: one place fewer
  back_from : (o : Option ℕ) (k m : ℕ) → before (row_under (nodes_of ls) o) k ≡ Some m → (0 < k) × (m < length (nodes_of ls)) × ((link_at ls m).previous ≡ before (row_under (nodes_of ls) o) (k - 1))
  back_from o zero m e = let wrong : None ≡ Some m = e in cc
  back_from None (suc k) m e = let wrong : None ≡ Some m = e in cc
  back_from (Some p) (suc k) m e = (omega arith, at_there (nodes_of ls) ok.tree p k m e, previous_step p k m e ∙ ap (before (children_at (nodes_of ls) p)) (omega arith))

  pub back_more : (n k m : ℕ) → before (row_under (nodes_of ls) (parent_at (nodes_of ls) n)) k ≡ Some m → (0 < k) × (m < length (nodes_of ls)) × ((link_at ls m).previous ≡ before (row_under (nodes_of ls) (parent_at (nodes_of ls) n)) (k - 1))
  back_more n k m e = back_from (parent_at (nodes_of ls) n) k m e

  -- at the front of the row no place is left
  front_by : (n : ℕ) (o : Option ℕ) (k : ℕ) → parent_at (nodes_of ls) n ≡ o → k ≤ place_under (nodes_of ls) n o → before (row_under (nodes_of ls) o) k ≡ None → k ≡ 0
  front_by n o zero said h e = refl
  front_by n None (suc k) said h e = absurd (omega arith)
  front_by n (Some p) (suc k) said h e =
      let inn = ok.tree.within n p said in
      let seen : place_at (nodes_of ls) n ≡ place_under (nodes_of ls) n (Some p) = ap (place_under (nodes_of ls) n) said in
      let wrong : None ≡ Some (get_or (children_at (nodes_of ls) p) k 0) = sym e ∙ slice_get-get_or (children_at (nodes_of ls) p) k 0 (omega (arith, inn, seen)) in
      cc

  pub front_reached : (n k : ℕ) → k ≤ place_at (nodes_of ls) n → before (row_under (nodes_of ls) (parent_at (nodes_of ls) n)) k ≡ None → k ≡ 0
  front_reached n k h e = front_by n (parent_at (nodes_of ls) n) k refl h e

  place_by : (n : ℕ) (o : Option ℕ) → parent_at (nodes_of ls) n ≡ o → place_under (nodes_of ls) n o ≤ length (nodes_of ls)
  place_by n None said = omega arith
  place_by n (Some p) said =
      let seen : place_at (nodes_of ls) n ≡ place_under (nodes_of ls) n (Some p) = ap (place_under (nodes_of ls) n) said in
      omega (arith, ok.tree.within n p said, row_short (nodes_of ls) ok.tree p, seen)

  pub place_short : (n : ℕ) → place_at (nodes_of ls) n ≤ length (nodes_of ls)
  place_short n = place_by n (parent_at (nodes_of ls) n) refl

module _ (ls ms : List LinkedNode) (ok : IsStored ls) where
  pub take_step : (old : List tree.Node) (c from m x : ℕ) → from ≤ m → m < length (children_at old c) → Splices old (nodes_of ls) c from m [] → slice_get (children_at (nodes_of ls) c) from ≡ Some x → Splices (nodes_of ls) (nodes_of ms) c (place_at (nodes_of ls) x) (suc (place_at (nodes_of ls) x)) [] → Splices old (nodes_of ms) c from (m + 1) [] × ((link_at ls x).next ≡ slice_get (children_at (nodes_of ms) c) from)
  take_step old c from m x le lt so_far stands step =
      let placed : place_at (nodes_of ls) x ≡ from = at_placed (nodes_of ls) ok.tree c from x stands in
      let here : Splices (nodes_of ls) (nodes_of ms) c from (suc from) [] = subst (λ k. Splices (nodes_of ls) (nodes_of ms) c k (suc k) []) placed step in
      let one : suc m ≡ m + 1 = omega arith in (
        subst (λ k. Splices old (nodes_of ms) c from k []) one (Splices-gone old (nodes_of ls) (nodes_of ms) c from m le lt so_far here),
        next_step ls ok c from x stands ∙ sym (ap (λ l. slice_get l from) here.children ∙ went_high (children_at (nodes_of ls) c) from from (slice_get_within (children_at (nodes_of ls) c) from x stands) (omega arith)),
      )

pub put_step : (old cur new : List tree.Node) (c g i x : ℕ) (all : List ℕ) (last behind : Option ℕ) → g ≤ length (children_at old c) → i < length all → x ≡ get_or all i 0 → Splices old cur c g g (take i all) → IsGap cur c (g + i) last behind → Splices cur new c (g + i) (g + i) (x ∷ []) → Splices old new c g g (take (i + 1) all) × IsGap new c (g + (i + 1)) (Some x) behind
put_step old cur new c g i x all last behind inside lt is so_far gap step =
    let whole = Splices-more old cur new c g g (g + i) (take i all) (x ∷ []) (omega arith) inside (omega (arith, length-take i all)) so_far step in
    let more : take (i + 1) all ≡ take i all ++ x ∷ [] = take_next all i lt ∙ ap (λ k. take i all ++ k ∷ []) (sym is) in
    let one : g + (i + 1) ≡ suc (g + i) = omega arith in (
      subst (λ l. Splices old new c g g l) (sym more) whole,
      record {
        inside = omega (arith, gap.inside, ap length step.children, length_came x (children_at cur c) (g + i) gap.inside);
        front = sym (ap (before (children_at new c)) one ∙ ap (λ l. slice_get l (g + i)) step.children ∙ came_here x (children_at cur c) (g + i) gap.inside);
        back = gap.back ∙ sym (ap (slice_get (children_at new c)) one ∙ ap (λ l. slice_get l (suc (g + i))) step.children ∙ came_high x (children_at cur c) (g + i) (g + i) gap.inside (omega arith));
      },
    )

pub put_can : (old cur : List tree.Node) (c g i x : ℕ) (all : List ℕ) → c < length old → is_container_at old c ≡ true → i < length all → x ≡ get_or all i 0 → CanJoin old c g g all → Splices old cur c g g (take i all) → CanAppend cur c x
put_can old cur c g i x all at holds lt is join so_far =
    subst (CanAppend cur c) (sym is) (CanAppend-next old cur c g g (take i all) all so_far join (take_in all i) i at holds lt (next_out all i join.once lt))
