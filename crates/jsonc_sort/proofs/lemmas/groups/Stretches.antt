-- Groups keep their places in an order that goes by groups first.
use Rattle.std.proofs.Common.{◌≡◌, ℕ, zero, suc, ◌+◌, ◌-◌, ◌<◌, ◌≤◌, Bool, true, false, inl, inr, List, [], ◌∷◌, length, get_or, take, drop, slice_index, slice_range, Option, refl, sym, ap, subst, ◌∙◌, arith, ltb-false, get_or-take, get_or-drop, length-take, length-drop, ext_get_or}
use Rattle.std.specs.Prelude.{IsPermutation}
use Rattle.std.specs.List.{range_with_len}
use Rattle.std.specs.List.Sorted.{IsNonDecreasingBy}
use Rattle.std.proofs.lemmas.Bool.{cases_eq, cases_lt, false≢true, true≢false, or_parts}
use Rattle.std.proofs.lemmas.List.FromFn.{get_or-range_with_len, length-range_with_len}
use Rattle.std.proofs.lemmas.List.Sorted.{length_permutation, IsNonDecreasingBy-from_all_adjacent}
use Rattle.jsonc_sort.specs.ordering.Groups.{group_starts, starts_from}
use Rattle.jsonc_sort.specs.ordering.Order.{start_in}
use Rattle.jsonc_sort.proofs.lemmas.groups.Added.{added, added_moved, added_parted}
use Rattle.jsonc_sort.specs.groups.Groups.{begins_at, GroupsStay, IsInGroups, IsStretch, StaysInGroups, StretchesStay}
use Rattle.jsonc_sort.proofs.lemmas.groups.AscendingLists.{alike}
use Rattle.jsonc_sort.proofs.lemmas.groups.Counted.{by_counts, none_of}
use Rattle.jsonc_sort.proofs.SortedRow.{is_it}
use Rattle.jsonc_sort.proofs.Orders.{zero_more}

-- where groups begin, of a row from a place on, the group before which began at another
abbrev start_from : ℕ → ℕ → List Bool → ℕ → ℕ
start_from start place row k = start_in (starts_from start place row) k

at_begin : (start place : ℕ) (row : List Bool) (k : ℕ) → begins_at row k ≡ true → start_from start place row k ≡ place + k
at_begin start place [] k e = absurd (false≢true e)
at_begin start place (true ∷ row) zero e = omega arith
at_begin start place (false ∷ row) zero e = absurd (false≢true e)
at_begin start place (true ∷ row) (suc k) e = omega (arith, at_begin place (suc place) row k e)
at_begin start place (false ∷ row) (suc k) e = omega (arith, at_begin start (suc place) row k e)

at_most : (start place : ℕ) (row : List Bool) (k : ℕ) → start ≤ place → start_from start place row k ≤ place + k
at_most start place [] k h = omega arith
at_most start place (true ∷ row) zero h = omega arith
at_most start place (false ∷ row) zero h = omega arith
at_most start place (true ∷ row) (suc k) h = omega (arith, at_most place (suc place) row k (omega arith))
at_most start place (false ∷ row) (suc k) h = omega (arith, at_most start (suc place) row k (omega arith))

at_least : (start place : ℕ) (row : List Bool) (k : ℕ) → start ≤ place → k < length row → start ≤ start_from start place row k
at_least start place [] k h lt = absurd (omega arith)
at_least start place (true ∷ row) zero h lt = h
at_least start place (false ∷ row) zero h lt = omega arith
at_least start place (true ∷ row) (suc k) h lt = omega (arith, h, at_least place (suc place) row k (omega arith) (omega arith))
at_least start place (false ∷ row) (suc k) h lt = at_least start (suc place) row k (omega arith) (omega arith)

no_fall : (start place : ℕ) (row : List Bool) (i j : ℕ) → start ≤ place → i ≤ j → j < length row → start_from start place row i ≤ start_from start place row j
no_fall start place [] i j h le lt = absurd (omega arith)
no_fall start place (b ∷ row) (suc i) zero h le lt = absurd (omega arith)
no_fall start place (true ∷ row) zero zero h le lt = omega arith
no_fall start place (false ∷ row) zero zero h le lt = omega arith
no_fall start place (true ∷ row) zero (suc j) h le lt = at_least place (suc place) row j (omega arith) (omega arith)
no_fall start place (false ∷ row) zero (suc j) h le lt = at_least start (suc place) row j (omega arith) (omega arith)
no_fall start place (true ∷ row) (suc i) (suc j) h le lt = no_fall place (suc place) row i j (omega arith) (omega arith) (omega arith)
no_fall start place (false ∷ row) (suc i) (suc j) h le lt = no_fall start (suc place) row i j (omega arith) (omega arith) (omega arith)

first_on : (start place : ℕ) (row : List Bool) → begins_at row 0 ≡ false → 0 < length row → start_from start place row 0 ≡ start
first_on start place [] e lt = absurd (omega arith)
first_on start place (true ∷ row) e lt = absurd (true≢false e)
first_on start place (false ∷ row) e lt = refl

-- where none begins it is the group of the place before
goes_on : (start place : ℕ) (row : List Bool) (k : ℕ) → begins_at row (suc k) ≡ false → suc k < length row → start_from start place row (suc k) ≡ start_from start place row k
goes_on start place [] k e lt = absurd (omega arith)
goes_on start place (true ∷ row) zero e lt = first_on place (suc place) row e (omega arith)
goes_on start place (false ∷ row) zero e lt = first_on start (suc place) row e (omega arith)
goes_on start place (true ∷ row) (suc k) e lt = goes_on place (suc place) row k e (omega arith)
goes_on start place (false ∷ row) (suc k) e lt = goes_on start (suc place) row k e (omega arith)

module _ (row : List Bool) where
  abbrev start : ℕ → ℕ
  start = start_in (group_starts row)

  abbrev places : List ℕ
  places = range_with_len 0 (length row)

  place_is : (i d : ℕ) → i < length row → get_or places i d ≡ i
  place_is i d lt = get_or-range_with_len 0 (length row) i d lt ∙ zero_more i

  places_rise : IsNonDecreasingBy start places
  places_rise i j d le lt =
      let within : j < length row = omega (arith, lt, length-range_with_len 0 (length row)) in
      omega (arith, ap start (place_is i d (omega (arith, le, within))), ap start (place_is j d within), no_fall 0 0 row i j (omega arith) le within)

  module _ (from upto : ℕ) (st : IsStretch row from upto) where
    front_is : start from ≡ from
    front_is =
        elim (cases_lt 0 from) [
          | inl h ↦ omega (arith, at_begin 0 0 row from (st.front h))
          | inr h ↦ omega (arith, h, at_most 0 0 row from (omega arith))
        ]

    inside : (i m : ℕ) → i ≡ from + m → i < upto → start i ≡ from
    inside i zero e lt = let here : i ≡ from = omega (arith, e) in ap start here ∙ front_is
    inside zero (suc m) e lt = absurd (omega (arith, e))
    inside (suc i) (suc m) e lt =
        goes_on 0 0 row i (st.inner (suc i) (omega (arith, e)) lt) (omega (arith, lt, st.within)) ∙ inside i m (omega (arith, e)) (omega (arith, lt))

    behind : (i : ℕ) → upto ≤ i → i < length row → upto ≤ start i
    behind i le lt =
        let here : start upto ≡ 0 + upto = at_begin 0 0 row upto (st.behind (omega (arith, le, lt))) in
        omega (arith, here, no_fall 0 0 row upto i (omega arith) le lt)

    -- of a list that names at each place one of its group
    module _ (xs : List ℕ) (long : length xs ≡ length row) (stays : StaysInGroups row xs) where
      front_none : (m : ℕ) → start m ≡ from → added (is_it m) (take from xs) ≡ 0
      front_none m e = none_of m (take from xs) none
        where
          none : (j : ℕ) → j < length (take from xs) → slice_index (take from xs) j ≡ m → ⊥
          none j h same =
              let within : j < from = omega (arith, h, length-take from xs) in
              let read : slice_index (take from xs) j ≡ slice_index xs j = get_or-take from xs j 0 within in
              let at : start j ≡ from = sym (stays j (omega (arith, within, st.some, st.within))) ∙ ap start (sym read ∙ same) ∙ e in
              omega (arith, at, at_most 0 0 row j (omega arith), within)

      back_none : (m : ℕ) → start m ≡ from → added (is_it m) (drop (upto - from) (drop from xs)) ≡ 0
      back_none m e = none_of m (drop (upto - from) (drop from xs)) none
        where
          none : (j : ℕ) → j < length (drop (upto - from) (drop from xs)) → slice_index (drop (upto - from) (drop from xs)) j ≡ m → ⊥
          none j h same =
              let within : upto + j < length row = omega (arith, h, length-drop (upto - from) (drop from xs), length-drop from xs, long, st.some, st.within) in
              let place : from + ((upto - from) + j) ≡ upto + j = omega (arith, st.some) in
              let read : slice_index (drop (upto - from) (drop from xs)) j ≡ slice_index xs (upto + j) = get_or-drop (upto - from) (drop from xs) j 0 ∙ get_or-drop from xs ((upto - from) + j) 0 ∙ ap (slice_index xs) place in
              let at : start (upto + j) ≡ from = sym (stays (upto + j) within) ∙ ap start (sym read ∙ same) ∙ e in
              omega (arith, at, st.some, behind (upto + j) (omega arith) within)

      slice_none : (m : ℕ) → (start m ≡ from → ⊥) → added (is_it m) (slice_range xs from upto) ≡ 0
      slice_none m ne = none_of m (slice_range xs from upto) none
        where
          none : (j : ℕ) → j < length (slice_range xs from upto) → slice_index (slice_range xs from upto) j ≡ m → ⊥
          none j h same =
              let within : from + j < upto = omega (arith, h, length-take (upto - from) (drop from xs)) in
              let read : slice_index (slice_range xs from upto) j ≡ slice_index xs (from + j) = get_or-take (upto - from) (drop from xs) j 0 (omega (arith, within)) ∙ get_or-drop from xs j 0 in
              ne (ap start (sym same ∙ read) ∙ stays (from + j) (omega (arith, within, st.within)) ∙ inside (from + j) j refl within)

      slice_all : (m : ℕ) → start m ≡ from → added (is_it m) (slice_range xs from upto) ≡ added (is_it m) xs
      slice_all m e = omega (arith, added_parted (is_it m) from xs, added_parted (is_it m) (upto - from) (drop from xs), front_none m e, back_none m e)

    places_stay : StaysInGroups row places
    places_stay i lt = ap start (place_is i 0 lt)

    places_part : slice_range places from upto ≡ range_with_len from (upto - from)
    places_part = ext_get_or 0 (slice_range places from upto) (range_with_len from (upto - from)) long each
      where
        long : length (slice_range places from upto) ≡ length (range_with_len from (upto - from))
        long = omega (arith, length-take (upto - from) (drop from places), length-drop from places, length-range_with_len 0 (length row), length-range_with_len from (upto - from), st.some, st.within)

        each : (j : ℕ) → j < length (slice_range places from upto) → get_or (slice_range places from upto) j 0 ≡ get_or (range_with_len from (upto - from)) j 0
        each j h =
            let within : j < upto - from = omega (arith, h, length-take (upto - from) (drop from places)) in
            get_or-take (upto - from) (drop from places) j 0 within ∙ get_or-drop from places j 0 ∙ place_is (from + j) 0 (omega (arith, within, st.within))
            ∙ sym (get_or-range_with_len from (upto - from) j 0 within)

    stretch_stays : (order : List ℕ) → IsPermutation places order → StaysInGroups row order → IsPermutation (range_with_len from (upto - from)) (slice_range order from upto)
    stretch_stays order all stays = subst (λ (l : List ℕ). IsPermutation l (slice_range order from upto)) places_part (by_counts (slice_range places from upto) (slice_range order from upto) counts)
      where
        long : length order ≡ length row
        long = length_permutation places order all ∙ length-range_with_len 0 (length row)

        old : length places ≡ length row
        old = length-range_with_len 0 (length row)

        counts : (m : ℕ) → added (is_it m) (slice_range order from upto) ≡ added (is_it m) (slice_range places from upto)
        counts m =
            elim (cases_eq (start m) from) [
              | inl e ↦ slice_all order long stays m e ∙ added_moved (is_it m) places order all ∙ sym (slice_all places old places_stay m e)
              | inr ne ↦ slice_none order long stays m ne ∙ sym (slice_none places old places_stay m ne)
            ]

  module _ {N : Type 0} (lt : N → N → Bool) (nodes : List (Option N)) (order : List ℕ) where
    order_rises : IsInGroups lt nodes row order → IsNonDecreasingBy start order
    order_rises o = IsNonDecreasingBy-from_all_adjacent start order (λ k d within. ltb-false (start (get_or order (k + 1) d)) (start (get_or order k d)) (or_parts _ _ (o.ascends k d (omega arith) within)).0)

    pub groups_stay : GroupsStay lt nodes row order
    groups_stay o i within =
        let same : start (slice_index order i) ≡ start (slice_index places i) = alike start places order o.all places_rise (order_rises o) i 0 (omega (arith, within, length-range_with_len 0 (length row))) in
        same ∙ ap start (place_is i 0 within)

    pub stretches_stay : StretchesStay lt nodes row order
    stretches_stay o from upto st = stretch_stays from upto st order o.all (groups_stay o)
