-- An order of what has come in it already names each place at itself.
use Rattle.std.proofs.Common.{◌≡◌, ℕ, ◌+◌, ◌<◌, ◌≤◌, Bool, true, false, ltb, inl, inr, List, All, IsPermutation, length, get_or, slice_index, sym, ap, ◌∙◌, arith, ltb-false, le-ltb}
use Rattle.std.specs.Cmp.{IsStrictWeakOrder}
use Rattle.std.specs.List.{range_with_len}
use Rattle.std.specs.List.Sorted.{IsNonDecreasingBy, IsSortedBy, ties}
use Rattle.std.proofs.lemmas.Bool.{and_from, cases_Bool, cases_lt, false≢true, not_from_false}
use Rattle.std.proofs.lemmas.List.Elements.{All-from_get_or}
use Rattle.std.proofs.lemmas.List.FromFn.{get_or-range_with_len, length-range_with_len}
use Rattle.std.proofs.lemmas.List.Sorted.{length_permutation, sorted_far, ties_stay_sorted, All-permutation, IsNonDecreasingBy-from_all_adjacent, IsStrictWeakOrder-by_number}
use Rattle.jsonc_sort.specs.ordering.Order.{IsOrderedBy}
use Rattle.jsonc_sort.specs.groups.Again.{NamesItself}
use Rattle.jsonc_sort.proofs.lemmas.groups.AscendingLists.{alike}
use Rattle.jsonc_sort.proofs.Orders.{zero_more}

-- an order names places that are there
below : (n : ℕ) (order : List ℕ) → IsPermutation (range_with_len 0 n) order → All (λ k. k < n) order
below n order all = All-permutation (λ k. k < n) (range_with_len 0 n) order all (All-from_get_or (λ k. k < n) (range_with_len 0 n) 0 there)
  where
    there : (i : ℕ) → i < length (range_with_len 0 n) → get_or (range_with_len 0 n) i 0 < n
    there i lt = let within : i < n = omega (arith, lt, length-range_with_len 0 n) in omega (arith, get_or-range_with_len 0 n i 0 within, within)

module _ (before after : ℕ → ℕ → Bool) (n : ℕ) (order again : List ℕ) (o : IsStrictWeakOrder after) (first : IsOrderedBy before n order) (second : IsOrderedBy after n again) (same : (i j : ℕ) → i < n → j < n → after i j ≡ before (slice_index order i) (slice_index order j)) where
  abbrev places : List ℕ
  places = range_with_len 0 n

  count : length places ≡ n
  count = length-range_with_len 0 n

  place_is : (i d : ℕ) → i < n → get_or places i d ≡ i
  place_is i d lt = get_or-range_with_len 0 n i d lt ∙ zero_more i

  -- the places ascend by it
  places_ascend : IsSortedBy after places
  places_ascend k d low within =
      let bound : k + 1 < n = omega (arith, within, count) in
      let long : length order ≡ n = length_permutation places order first.all ∙ count in
      ap (λ (x : ℕ). after x (get_or places k d)) (place_is (k + 1) d bound) ∙ ap (after (k + 1)) (place_is k d (omega (arith, bound)))
      ∙ same (k + 1) k bound (omega (arith, bound)) ∙ first.ascends k 0 low (omega (arith, bound, long))

  no_less : (a b : ℕ) → b ≤ a → a < n → after a b ≡ false
  no_less a b le lt =
      ap (λ (x : ℕ). after x b) (sym (place_is a 0 lt)) ∙ ap (after (get_or places a 0)) (sym (place_is b 0 (omega (arith, le, lt))))
      ∙ sorted_far after o places places_ascend b a 0 le (omega (arith, lt, count))

  -- and by number
  places_rise : IsSortedBy (λ (x y : ℕ). ltb x y) places
  places_rise k d low within =
      let bound : k + 1 < n = omega (arith, within, count) in
      le-ltb (get_or places (k + 1) d) (get_or places k d) (omega (arith, place_is (k + 1) d bound, place_is k d (omega (arith, bound))))

  rises : (k d : ℕ) → k + 1 < length again → get_or again k d ≤ get_or again (k + 1) d
  rises k d within =
      elim (cases_Bool (after (get_or again k d) (get_or again (k + 1) d))) [
        | inl holds ↦ elim (cases_lt (get_or again k d) (get_or again (k + 1) d)) [
          | inl less ↦ omega (arith, less)
          | inr more ↦
              let there : get_or again k d < n = below n again second.all k d (omega (arith, within)) in
              absurd (false≢true (sym (no_less (get_or again k d) (get_or again (k + 1) d) more there) ∙ holds))
        ]
        | inr fails ↦
            let back : after (get_or again (k + 1) d) (get_or again k d) ≡ false = second.ascends k d (omega arith) within in
            let tie : ties after (get_or again k d) (get_or again (k + 1) d) ≡ true = and_from _ _ (not_from_false _ fails) (not_from_false _ back) in
            ltb-false (get_or again (k + 1) d) (get_or again k d) (ties_stay_sorted (λ (x y : ℕ). ltb x y) after (IsStrictWeakOrder-by_number (λ x. x)) o places again places_rise second.stable k d within tie)
      ]

  places_go_up : IsNonDecreasingBy (λ x. x) places
  places_go_up i j d le lt =
      let bound : j < n = omega (arith, lt, count) in
      omega (arith, place_is i d (omega (arith, le, bound)), place_is j d bound, le)

  pub stays_put : (k : ℕ) → k < length again → slice_index again k ≡ k
  stays_put k lt =
      let bound : k < n = omega (arith, lt, length_permutation places again second.all, count) in
      alike (λ x. x) places again second.all places_go_up (IsNonDecreasingBy-from_all_adjacent (λ x. x) again rises) k 0 (omega (arith, bound, count)) ∙ place_is k 0 bound

pub stays_as_named : (before after : ℕ → ℕ → Bool) (n : ℕ) (order again : List ℕ) → NamesItself before after n order again
stays_as_named before after n order again o first second same = stays_put before after n order again o first second same
