-- The ends of a row, and what comes between them.
use Rattle.std.proofs.Common.{◌≡◌, ℕ, zero, suc, ◌+◌, ◌-◌, ◌<◌, ◌≤◌, List, [], length, reverse, slice_get, drop, Option, Some, None, refl, sym, ap, subst, ◌∙◌, arith}
use Rattle.std.proofs.lemmas.List.{take_all}
use Rattle.std.proofs.lemmas.Option.{slice_get-get_or}
use Rattle.jsonc_tree.specs.Changes.{CanJoin, Splices}
use Rattle.jsonc_tree.specs.Order.{with_parent}
use Rattle.jsonc_tree.specs.Siblings.{before, first, siblings_after, siblings_before, CanFill, IsGap, IsStretch}
use Rattle.jsonc_tree.specs.Tree.{Node, children_at, parent_at, place_at, IsTree}
use Rattle.jsonc_tree.proofs.Gaps.{at_named, at_placed}
use Rattle.jsonc_tree.proofs.LinkSteps.{none_at, some_at}
use Rattle.jsonc_tree.proofs.LinkedRows.{first_drop}
use Rattle.jsonc_tree.proofs.Returned.{stretch_more, IsGap-gone, Splices-refilled}
use Rattle.jsonc_tree.proofs.Stretches.{CanJoin-gone, Splices-none}
use Rattle.jsonc_edit.proofs.SpacePlaces.{first_back, gap_before}

module _ (ns : List Node) (tree : IsTree ns) (c : ℕ) where
  abbrev row : List ℕ
  row = children_at ns c

  -- what stands before a place of a row stands at the place before
  pub before_is : (k n : ℕ) → before row k ≡ Some n → (parent_at ns n ≡ Some c) × (place_at ns n + 1 ≡ k)
  before_is zero n e = let wrong : None ≡ Some n = e in cc
  before_is (suc k) n e = (at_named ns tree c k n e, omega (arith, at_placed ns tree c k n e))

  pub before_some : (k : ℕ) → 0 < k → k ≤ length row → before row k ≡ None → ⊥
  before_some zero low h e = omega arith
  before_some (suc k) low h e = some_at row k (omega arith) e

  pub last_back : first (reverse row) ≡ before row (length row)
  last_back = sym (first_back row (length row) (omega arith) ∙ ap (λ (l : List ℕ). first (reverse l)) (take_all (length row) row (omega arith)))

  pub first_some : 0 < length row → first row ≡ None → ⊥
  first_some h e = some_at row 0 h e

  pub first_is : (n : ℕ) → first row ≡ Some n → (parent_at ns n ≡ Some c) × (place_at ns n ≡ 0)
  first_is n e = (at_named ns tree c 0 n e, at_placed ns tree c 0 n e)

  pub last_is : (n : ℕ) → first (reverse row) ≡ Some n → (parent_at ns n ≡ Some c) × (place_at ns n + 1 ≡ length row)
  last_is n e = before_is (length row) n (sym last_back ∙ e)

  pub last_some : 0 < length row → first (reverse row) ≡ None → ⊥
  last_some h e = before_some (length row) h (omega arith) (sym last_back ∙ e)

  -- the next sibling stands at the next place
  pub next_at : (n : ℕ) → parent_at ns n ≡ Some c → first (siblings_after ns n) ≡ slice_get row (place_at ns n + 1)
  next_at n said = ap (λ o. first (drop (place_at ns n + 1) (with_parent o (children_at ns)))) said ∙ first_drop (place_at ns n + 1) row

  pub previous_at : (n : ℕ) → parent_at ns n ≡ Some c → first (siblings_before ns n) ≡ before row (place_at ns n)
  previous_at n said = (gap_before ns tree n c (first (siblings_before ns n)) said refl).front

  -- what stands between two children, if anything
  module _ (a b : ℕ) (front : parent_at ns a ≡ Some c) (back : parent_at ns b ≡ Some c) (order : place_at ns a < place_at ns b) where
    pub one_behind : first (siblings_after ns a) ≡ None → ⊥
    one_behind e = some_at row (place_at ns a + 1) (omega (arith, order, tree.within b c back)) (sym (next_at a front) ∙ e)

    pub one_before : first (siblings_before ns b) ≡ None → ⊥
    one_before e = before_some (place_at ns b) (omega (arith, order)) (omega (arith, tree.within b c back)) (sym (previous_at b back) ∙ e)

    module _ (from : ℕ) (next : first (siblings_after ns a) ≡ Some from) where
      from_is : (parent_at ns from ≡ Some c) × (place_at ns from ≡ place_at ns a + 1)
      from_is = let at : slice_get row (place_at ns a + 1) ≡ Some from = sym (next_at a front) ∙ next in (at_named ns tree c (place_at ns a + 1) from at, at_placed ns tree c (place_at ns a + 1) from at)

      pub none_between : from ≡ b → Splices ns ns c (place_at ns a + 1) (place_at ns b) []
      none_between same =
          subst (λ k. Splices ns ns c k (place_at ns b) []) (ap (place_at ns) (sym same) ∙ from_is.1)
          (Splices-none ns c (place_at ns b) (omega (arith, tree.within b c back)))

      module _ (ne : from ≡ b → ⊥) (to : ℕ) (previous : first (siblings_before ns b) ≡ Some to) where
        to_is : (parent_at ns to ≡ Some c) × (place_at ns to + 1 ≡ place_at ns b)
        to_is = before_is (place_at ns b) to (sym (previous_at b back) ∙ previous)

        pub inner_stretch : IsStretch ns c from to
        inner_stretch = record {
          front = from_is.0;
          back = to_is.0;
          order = omega (arith, to_is.1, (stretch_more ns tree c from b from_is.0 back (omega (arith, from_is.1, order)) ne).0);
        }

        pub inner_gone : (new : List Node) → Splices ns new c (place_at ns from) (place_at ns to + 1) [] → Splices ns new c (place_at ns a + 1) (place_at ns b) []
        inner_gone new gone = subst (λ k. Splices ns new c (place_at ns a + 1) k []) to_is.1 (subst (λ k. Splices ns new c k (place_at ns to + 1) []) from_is.1 gone)

  -- the whole row
  pub nothing_gone : first row ≡ None → Splices ns ns c 0 (length row) []
  nothing_gone e = subst (λ k. Splices ns ns c 0 k []) (omega (arith, none_at row 0 e)) (Splices-none ns c 0 (omega arith))

  pub last_there : (n : ℕ) → first row ≡ Some n → first (reverse row) ≡ None → ⊥
  last_there n e f = last_some (omega (arith, tree.within n c (first_is n e).0)) f

  module _ (n m : ℕ) (front : first row ≡ Some n) (back : first (reverse row) ≡ Some m) where
    pub whole_stretch : IsStretch ns c n m
    whole_stretch = record { front = (first_is n front).0; back = (last_is m back).0; order = omega (arith, (first_is n front).1) }

    pub whole_gone : (new : List Node) → Splices ns new c (place_at ns n) (place_at ns m + 1) [] → Splices ns new c 0 (length row) []
    whole_gone new gone = subst (λ k. Splices ns new c 0 k []) (last_is m back).1 (subst (λ k. Splices ns new c k (place_at ns m + 1) []) (first_is n front).1 gone)

    -- all but its ends
    module _ (two : 2 ≤ length row) where
      pub ends_apart : place_at ns n < place_at ns m
      ends_apart = omega (arith, two, (first_is n front).1, (last_is m back).1)

      module _ (mid : List Node) (gone : Splices ns mid c (place_at ns n + 1) (place_at ns m) []) where
        low : place_at ns n + 1 ≡ 1
        low = omega (arith, (first_is n front).1)

        high : place_at ns m ≡ length row - 1
        high = omega (arith, two, (last_is m back).1)

        inside_gone : Splices ns mid c 1 (length row - 1) []
        inside_gone = subst (λ k. Splices ns mid c 1 k []) high (subst (λ k. Splices ns mid c k (place_at ns m) []) low gone)

        last_at : Some m ≡ slice_get row (length row - 1)
        last_at = sym (placed m (last_is m back).0) ∙ ap (slice_get row) high
          where
            placed : (x : ℕ) → parent_at ns x ≡ Some c → slice_get row (place_at ns x) ≡ Some x
            placed x said = sym (gap_before ns tree x c (first (siblings_before ns x)) said refl).back

        inside_gap : IsGap mid c 1 (Some n) (Some m)
        inside_gap = IsGap-gone ns mid c 1 (length row - 1) (Some n) (Some m) (omega (arith, two)) (omega (arith, two)) (sym front) last_at inside_gone

        module _ (xs : List ℕ) where
          pub inside_can : CanJoin ns c 1 (length row - 1) xs → CanFill mid c (Some n) (Some m) xs
          inside_can join = (1, inside_gap, CanJoin-gone ns mid c 1 (length row - 1) xs inside_gone join)

          pub inside_set : (new : List Node) → ((g : ℕ) → IsGap mid c g (Some n) (Some m) → Splices mid new c g g xs) → Splices ns new c 1 (length row - 1) xs
          inside_set new fills = Splices-refilled ns mid new c 1 (length row - 1) xs (omega (arith, two)) (omega (arith, two)) inside_gone (fills 1 inside_gap)

-- directly behind a child there is a gap
pub gap_after : (ns : List Node) → IsTree ns → (n c : ℕ) (o : Option ℕ) → parent_at ns n ≡ Some c → o ≡ first (siblings_after ns n) → IsGap ns c (place_at ns n + 1) (Some n) o
gap_after ns tree n c o said e =
    let row : List ℕ = children_at ns c in
    let place : ℕ = place_at ns n in
    let one : suc place ≡ place + 1 = omega arith in
    record {
      inside = omega (arith, tree.within n c said);
      front = sym (ap (before row) (sym one) ∙ slice_get-get_or row place 0 (tree.within n c said) ∙ ap (λ (k : ℕ). Some k) (tree.found n c said));
      back = e ∙ next_at ns tree c n said;
    }
